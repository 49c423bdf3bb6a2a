-- What the steps of `why` answer (02: P5).
--     refusing      the build's refusal
--     target_in, leads_to      where the offset of a spot leads, with the functions' first words F
--     InFunction    the spot of a word of a function
--     Lies          the function that a word lies in, by the first words F
--     Opened        the spot of a word of the program
-- Assumes nothing.
use Rattle.std.specs.Prelude.{◌≡◌, false, List, ℕ, ◌+◌, ◌≤◌, ◌<◌, ltb, length, get_or, take, None, Option, Some}
use Rattle.rules.specs.declared.Answer.{Answer}
use Rattle.rules.specs.declared.Why.{Why}
use Rattle.rules.specs.Bytes.{pick}
use Rattle.rules.specs.Tables.{nth}
use Rattle.rules.specs.Read.{function_at, contract_at}
use Rattle.rules.specs.Refusal.{ok}
use Rattle.rules.specs.Emit.{Open}
use Rattle.rules.specs.Link.{Built}
use Rattle.rules.specs.Why.{marked}
use Rattle.tables.specs.Listed.{functions_in}
use Rattle.emit.specs.declared.Rules.{Rules}
use Rattle.emit.specs.Steps.{gen_function_lem}
use Rattle.emit.specs.Ran.{Tally}
use Rattle.emit.specs.State.{rules_of}
use Rattle.codegen.specs.Does.{Checked}
use Rattle.compiler.specs.Made.{firsts_of}
use Rattle.seek.specs.declared.Spot.{Spot}
use Rattle.seek.specs.declared.Way.{Way}
use Rattle.seek.specs.declared.Way.TheVariants as way
use Rattle.seek.specs.Found.{Found}
use Rattle.seek.specs.Spots.{told}

abbrev pub refusing : Answer → Why
refusing a = record { refusal = a.refusal; place = a.place; patched = false; target = 0 }

-- A jump leads where it says, a call to its function's first word.
unfoldable pub leads_to : List ℕ → (to : ℕ) → Way → Option ℕ
leads_to F t way.Ahead = Some t
leads_to F t way.Calls = pick (ltb t 256) (Some (get_or F t 0)) None
leads_to F t way.Plain = None
leads_to F t way.Value = None
leads_to F t way.Block = None
leads_to F t way.Stmt = None

abbrev pub target_in : List ℕ → Spot → Option ℕ
target_in F s = leads_to F s.to s.way

-- The state before a function's first word.
abbrev pub start : ℕ → Tally
start n = record { err = 0; place = 0; n = n }

pub record InFunction (img : List ℕ) (R : Rules) (f first end want : ℕ) (a : Spot) : Type 0 where
  pub found : Found (told img want) (gen_function_lem (rules_of R) (contract_at img) (function_at img f)) (start first) end want a

-- function_of, of so many functions
pub record Lies (F : List ℕ) (count want k : ℕ) : Type 0 where
  pub within : 0 < count → k < count
  pub least : (k ≡ 0 → ⊥) → get_or F k 0 ≤ want
  pub most : k + 1 < count → want < get_or F (k + 1) 0

-- What in_program asks: the arrays are the image's, and there is a function.
pub record Located (img t N s : List ℕ) : Type 0 where
  pub checked : Checked img t N
  pub some : 0 < length (functions_in img)
  pub size : 1025 ≤ length s

-- in_program: of a program of n words whose functions start at F
pub record Opened (img : List ℕ) (R : Rules) (F : List ℕ) (n want : ℕ) (a : Spot) : Type 0 where
  pub spot : (b : Built) → marked (rules_of R) (contract_at img) ≡ ok b → n ≡ length b.code → n < 4294967295 → take (length b.table) F ≡ firsts_of b.table
      → (w : Open) → nth want b.code ≡ Some w → a ≡ told img want w
