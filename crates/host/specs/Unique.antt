-- Answers allowed by the contract of `host_build` are equal (01: How much a contract must say).
-- Assumes nothing.
use Rattle.std.specs.Prelude.{◌≡◌, List, ℕ}
use Rattle.std.proofs.Common.{sym, ◌∙◌}
use Rattle.rules.specs.Build.{rules, host_of, host_bytes}

-- Two builds of one image into bytes lent alike: the number and every byte are the same.
pub one_answer : (img s : List ℕ) (r q : ℕ) (t u : List ℕ) → (r ≡ host_of rules img s) × (t ≡ host_bytes rules img s) → (q ≡ host_of rules img s) × (u ≡ host_bytes rules img s) → (r ≡ q) × (t ≡ u)
one_answer img s r q t u (a, b) (c, d) = (a ∙ sym c, b ∙ sym d)
