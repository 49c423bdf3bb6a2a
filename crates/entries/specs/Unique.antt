-- Answers allowed by the contract of `build_entries` are equal (01: How much a contract must say).
-- Assumes nothing.
use Rattle.std.specs.Prelude.{◌≡◌, List, ℕ}
use Rattle.rules.specs.declared.Answer.{Answer}
use Rattle.rules.specs.Emit.{Rules}
use Rattle.compiler.specs.Ends.{Built}
use Rattle.compiler.specs.Unique as flat
use Rattle.entries.specs.declared.Entry.{Entry}
use Rattle.entries.specs.Entries.{numbers_of, numbers_one}

-- Two builds of one image into slices lent alike: the three numbers, every word and every entry are the same.
pub one_answer : (R : Rules) (img code : List ℕ) (es : List Entry) (a b : Answer) (c d : List ℕ) (t u : List Entry)
    → Built R img code (numbers_of es) a c (numbers_of t) → Built R img code (numbers_of es) b d (numbers_of u) → (a ≡ b) × (c ≡ d) × (t ≡ u)
one_answer R img code es a b c d t u p q =
    let (x, y, z) = flat.one_answer R img code (numbers_of es) a b c d (numbers_of t) (numbers_of u) p q in
    (x, y, numbers_one t u z)
