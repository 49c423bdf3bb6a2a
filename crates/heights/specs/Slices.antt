-- What stands in the lent slices after a build that answers 0: the program's words, and entries that the law does not tell from its own.
-- Assumes nothing.
use Rattle.std.specs.Prelude.{◌≡◌, List, [], ◌∷◌, ℕ, zero, suc, length, get_or, take, drop}
use Rattle.rules.specs.Machine.{Entry}
use Rattle.rules.specs.Refusal.{ok}
use Rattle.rules.specs.Read.{contract_at}
use Rattle.rules.specs.Emit.{Rules}
use Rattle.rules.specs.Link.{Program}
use Rattle.rules.specs.Build.{program, words_of, build_of, code_of, table_of}
use Rattle.heights.specs.Entries.{Like}

-- Where a function's words end, with k entries behind it: where those of the next start, or with the last of n words.
unfoldable pub past_in : (k n : ℕ) → List ℕ → ℕ
past_in zero n t = n
past_in (suc k) n t = get_or t 1 0

-- The first k entries of a table of numbers, of a program of n words (01: place, first word, parameter count; names are not in it).
unfoldable pub entries_in : (k n : ℕ) → List ℕ → List Entry
entries_in zero n t = []
entries_in (suc k) n t = record { place = get_or t 0 0; name = []; params = get_or t 2 0; first = get_or t 1 0; past = past_in k n (drop 3 t) } ∷ entries_in k n (drop 3 t)

-- Of each entry the place, the first word, the parameters and the end are read back.
unfoldable pub Listed : List Entry → List Entry → Type 0
Listed [] [] = Unit {0}
Listed [] (d ∷ U) = ⊥
Listed (e ∷ T) [] = ⊥
Listed (e ∷ T) (d ∷ U) = (d.place ≡ e.place) × Like e d × Listed T U

-- What stands in the lent slices after a build: the first `count` numbers of the code slice, and an entry for each function of the
-- contract.
unfoldable pub words_in : Rules → (img code table : List ℕ) → List ℕ
words_in R img code table = take (build_of R img code table).count (code_of R img code table)

-- The entries.
unfoldable pub table_in : Rules → (img code table : List ℕ) → List Entry
table_in R img code table = entries_in (length (contract_at img).functions) (build_of R img code table).count (table_of R img code table)

-- Of a build that answers 0 these are the program's.
pub record Lent (R : Rules) (img code table : List ℕ) : Type 0 where
  pub P : Program
  pub is : program R img ≡ ok P
  pub words : words_in R img code table ≡ words_of P
  pub entries : Listed P.table (table_in R img code table)
