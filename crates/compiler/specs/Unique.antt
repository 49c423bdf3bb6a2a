-- Answers allowed by the same statement are equal (01: How much a contract must say).
-- Assumes nothing.
use Rattle.std.specs.Prelude.{◌≡◌, List, ℕ}
use Rattle.std.proofs.Common.{sym, ◌∙◌}
use Rattle.rules.specs.declared.Answer.{Answer}
use Rattle.rules.specs.Emit.{Rules}
use Rattle.compiler.specs.Ends.{Built}

-- Two builds of one image into slices lent alike: the three numbers and every entry of both slices are the same.
pub one_answer : (R : Rules) (img code table : List ℕ) (a b : Answer) (c d t u : List ℕ) → Built R img code table a c t → Built R img code table b d u → (a ≡ b) × (c ≡ d) × (t ≡ u)
one_answer R img code table a b c d t u p q = (p.answer ∙ sym q.answer, p.words ∙ sym q.words, p.entries ∙ sym q.entries)
