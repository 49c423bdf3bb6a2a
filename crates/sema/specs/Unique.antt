-- Answers allowed by the contract of `analyse` are equal (01: How much a contract must say).
-- Assumes nothing.
use Rattle.std.specs.Prelude.{◌≡◌, List, ℕ}
use Rattle.std.proofs.Common.{sym, ◌∙◌}
use Rattle.rules.specs.declared.Answer.{Answer}
use Rattle.rules.specs.Build.{analyse_of}

-- Two analyses of one image: the three numbers are the same.
pub one_answer : (img : List ℕ) (a b : Answer) → a ≡ analyse_of img → b ≡ analyse_of img → a ≡ b
one_answer img a b p q = p ∙ sym q
