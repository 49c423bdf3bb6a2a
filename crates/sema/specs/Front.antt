-- What the front answers: a refusal with all that it carries, or the contract that is to be generated.
-- Assumes nothing.
use Rattle.std.specs.Prelude.{◌≡◌, List, ℕ, None, Option, Some, Result, Ok, Err}
use Rattle.rules.specs.Tree.{Contract}
use Rattle.rules.specs.Read.{contract_at}
use Rattle.rules.specs.Refusal.{Refusal, Res, ok, bad}
use Rattle.notes.specs.Notes.{Known}
use Rattle.lookup.specs.Answers.{fault_of}
use Rattle.sema.specs.declared.front.Refused.{Refused}
use Rattle.sema.specs.declared.front.Refused.TheVariants as is
use Rattle.sema.specs.Entry.{Passed}

-- The refusal that it stands for (01: What comes back).
unfoldable pub refused_of : List ℕ → Refused → Refusal
refused_of img (is.Image n p) = Refusal.fault n p
refused_of img (is.Analysis f) = fault_of img f
refused_of img (is.Ambiguous p) = Refusal.ambiguous p

abbrev pub Judged : Type 0
Judged = Result (Unit {0}) Refused

unfoldable pub judged_of : List ℕ → Judged → Res Contract
judged_of img (Ok u) = ok (contract_at img)
judged_of img (Err r) = bad (refused_of img r)

-- 01: row 30
unfoldable pub spotted : Option ℕ → Judged
spotted (Some p) = Err (is.Ambiguous p)
spotted None = Ok tt

-- As the definition's m says; of what is not refused the tables stand in t and the notes in N.
pub record Judges (img : List ℕ) (m : Res Contract) (t N : List ℕ) (r : Judged) : Type 0 where
  pub answers : judged_of img r ≡ m
  pub ready : r ≡ Ok tt → Known img t N × Passed img
