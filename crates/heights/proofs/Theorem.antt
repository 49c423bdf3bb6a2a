-- Demand 3 over words as records: every function of an accepted contract obeys the law of heights.
-- Assumes nothing.
use Rattle.std.specs.Prelude.{◌≡◌, refl, List, [], ◌++◌, ℕ, suc, ◌+◌, ◌<◌, length, None, Option, Some}
use Rattle.std.proofs.Common.{subst, arith}
use Rattle.rules.specs.Tables.{last}
use Rattle.rules.specs.Tree.{Function, Contract}
use Rattle.rules.specs.Refusal.{ok, ◌>>=◌}
use Rattle.rules.specs.Builtins.{main}
use Rattle.rules.specs.Check.{check_of}
use Rattle.rules.specs.Read.{contract_at}
use Rattle.rules.specs.Analyse.{function_name, analyse}
use Rattle.rules.specs.Ambiguous.{first_ambiguous_lem}
use Rattle.rules.specs.Machine.{Entry, At, Heights}
use Rattle.rules.specs.Emit.{Rules, Open}
use Rattle.rules.specs.Generate.{function}
use Rattle.rules.specs.Link.{Program, functions, link, opening, with_main, generate}
use Rattle.rules.specs.Build.{passed, clear, analysed, judged, program}
use Rattle.heights.specs.Positions.{at_right}
use Rattle.heights.specs.Entries.{Covers, apart}
use Rattle.heights.proofs.Certificate.{heights}
use Rattle.heights.specs.Law.{Home}
use Rattle.heights.specs.Segment.{Piece, noted}
use Rattle.heights.specs.Level.{height}
use Rattle.heights.specs.Fits.{StmtsFit}
use Rattle.bounds.specs.Answers.{All, all_ok, all_bad, all_bind, all_next, all_map, from_ok}
use Rattle.heights.specs.Checks.{Takes, BodiesFit}
use Rattle.heights.proofs.Checks.{takes_one, analysis_fits}
use Rattle.heights.proofs.Pieces.{function_closed}
use Rattle.heights.specs.Placed.{length_link, Mirrors, Laid, covers, Housed, housed, functions_laid, mirrors_length}
use Rattle.heights.proofs.Judged.{short, Map, certified, comes_home}
use Rattle.heights.specs.Theorem.{Obeys}

-- What is shown of a function's words.
Good : List Function → List Open → ℕ → Type 0
Good fs c n = Piece (height (Takes fs)) c (suc n) []

-- There is a word at least.
filled : (fs : List Function) (c : List Open) (n : ℕ) → Good fs c n → 0 < length c
unfolding Good
filled fs c n p = omega (arith, noted (height (Takes fs)) p, short (height (Takes fs)) p.notes 0 (suc n) (p.begins (suc n) refl))

module _ (fs : List Function) (T : List Entry) (mirrors : Mirrors fs T) (R : Rules) (code : List Open) (laid : Laid (Good fs) 3 code T) where
  -- All open words.
  whole : List Open
  whole = opening R ++ code

  -- Each function stands in them.
  house : (k : ℕ) (e : Entry) → At T k e → Housed (Good fs) whole e
  unfolding whole opening
  house = housed (Good fs) whole 3 code T laid (λ j o b. at_right (opening R) code j (3 + j) o (omega arith) b)

  -- And they are no more.
  covered : Covers 3 (length (link T 0 whole)) T
  unfolding whole opening
  covered = covers (Good fs) (filled fs) 3 code T laid _ (omega (arith, length_link T 0 whole))

  -- Each obeys the law, and comes to a Ret.
  placed : (k : ℕ) (e : Entry) → At T k e → Heights (link T 0 whole) T e × Home (link T 0 whole) T e
  unfolding Housed Good
  placed k e a =
      let (c, piece, past, up) = house k e a in (
        heights (link T 0 whole) T (apart 3 (length (link T 0 whole)) T covered) e (Map fs T mirrors whole e c piece past up) (certified fs T mirrors whole e c piece past up),
        comes_home fs T mirrors whole e c piece past up,
      )

  obeys : Obeys fs (record { words = link T 0 (opening R ++ code); table = T })
  unfolding whole
  obeys = record {
    mirrors = mirrors;
    covers = covered;
    law = λ k e a. (placed k e a).0;
    home = λ k e a. (placed k e a).1;
  }

-- Generation behind analysis.
generated : (R : Rules) (C : Contract) → BodiesFit (Takes C.functions) C.functions → All (Obeys C.functions) (generate R C)
unfolding generate with_main Good
generated R C q = with (last function_name main fs)
  where
    fs : List Function
    fs = C.functions

    closed : (f : Function) → StmtsFit (Takes fs) f.body → All (λ (c : List Open). Good fs c (length f.params)) (function R C f)
    closed f p = function_closed (Takes fs) (takes_one fs) R C f p

    with : (o : Option Function) → All (Obeys fs) (with_main o (functions R C 3 fs >>= λ b. ok (record { words = link b.table 0 (opening R ++ b.code); table = b.table })))
    with None = all_bad _
    with (Some f) = all_bind (functions R C 3 fs) _ (functions_laid (Good fs) (Takes fs) R C closed 3 fs q) (λ b p. all_ok _ (obeys fs b.table p.1 R b.code p.0))

-- Whatever the rules (registers, edition): of a contract that analysis passes, every function obeys the law.
pub generated_obeys : (R : Rules) (C : Contract) → All (λ u. All (Obeys C.functions) (generate R C)) (analyse C)
generated_obeys R C = all_map (analysis_fits C) (λ u q. generated R C q)

-- Image by image.
analysed_obeys : (R : Rules) (img : List ℕ) → All (λ (C : Contract). All (Obeys (contract_at img).functions) (generate R C)) (analysed img)
unfolding analysed
analysed_obeys R img =
    all_next (passed (check_of img)) _ (λ c.
    all_bind (analyse (contract_at img)) _ (generated_obeys R (contract_at img)) (λ u q. all_ok (contract_at img) q))

judged_obeys : (R : Rules) (img : List ℕ) → All (λ (C : Contract). All (Obeys (contract_at img).functions) (generate R C)) (judged img)
unfolding judged
judged_obeys R img = all_bind (analysed img) _ (analysed_obeys R img) (λ C q. all_next (clear (first_ambiguous_lem C)) _ (λ u. all_ok C q))

program_obeys : (R : Rules) (img : List ℕ) → All (Obeys (contract_at img).functions) (program R img)
unfolding program
program_obeys R img = all_bind (judged img) _ (judged_obeys R img) (λ C q. q)

-- Of an accepted image every function obeys the law.
pub obeyed : (R : Rules) (img : List ℕ) (P : Program) → program R img ≡ ok P → Obeys (contract_at img).functions P
obeyed R img P e = from_ok (subst (All (Obeys (contract_at img).functions)) e (program_obeys R img))

-- It has an entry for each.
pub as_many : (R : Rules) (img : List ℕ) (P : Program) → program R img ≡ ok P → length P.table ≡ length (contract_at img).functions
as_many R img P e = mirrors_length (contract_at img).functions P.table (obeyed R img P e).mirrors
