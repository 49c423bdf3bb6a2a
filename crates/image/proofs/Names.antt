-- The steps of a walk over the bytes of a name.
-- Assumes nothing.
use mathlib.Core.Path.{◌≡◌, refl, subst}
use mathlib.Core.Bool.{true, false}
use mathlib.Core.List.{List}
use Prim.Native.Nat.{ℕ, zero, suc, ◌+◌, ◌-◌, ◌/◌, ◌≤◌, ◌<◌, min}
use native.Mathlib.Omega.{arith}
use Rattle.rules.specs.Bytes.{byte_at, name_byte_lem, name_from}
use Rattle.image.specs.Names.{Named, Fours}
use Rattle.image.proofs.Every.{by_cases}

pub name_end : (s : List ℕ) (p to : ℕ) → to ≤ p → name_from s p (to - p) ≡ true
unfolding name_from
name_end s p to h = let e : to - p ≡ 0 = omega arith in rw e

pub name_stop : (s : List ℕ) (p to : ℕ) → p < to → name_byte_lem (byte_at s p) ≡ false → name_from s p (to - p) ≡ false
unfolding name_from
name_stop s p to h b = let e : to - p ≡ suc (to - (p + 1)) = omega arith in rw (e, b)

pub name_more :
    (s : List ℕ) (p to : ℕ) → p < to → name_byte_lem (byte_at s p) ≡ true → name_from s p (to - p) ≡ name_from s (p + 1) (to - (p + 1))
unfolding name_from
name_more s p to h b = let e : to - p ≡ suc (to - (p + 1)) = omega arith in rw (e, b)

-- Bytes told by their places.
pub all_named : (s : List ℕ) (p to : ℕ) → p ≤ to → Named s p to → name_from s p (to - p) ≡ true
unfolding name_from
all_named s p to h all = upto (to - p) p (λ k l m. all k l (omega arith))
  where
    upto : (n p : ℕ) → Named s p (p + n) → name_from s p n ≡ true
    upto zero p f = refl
    upto (suc n) p f = rw (f p (omega arith) (omega arith)) (upto n (p + 1) (λ k l m. f k (omega arith) (omega arith)))

-- One to three bytes are the first, the middle and the last.
pub few_named :
    (s : List ℕ) (from to : ℕ) → from < to → to ≤ from + 3
    → (name_byte_lem (byte_at s from) ≡ true) × (name_byte_lem (byte_at s (from + (to - from) / 2)) ≡ true) × (name_byte_lem (byte_at s (to - 1)) ≡ true) → Named s from to
few_named s from to h g n k l m = by_cases (N k) (from + 1) k
    (λ i. by_cases (N k) (to - 1) k (λ j. let e : to - 1 ≡ k = omega arith in subst N e n.2) (λ j. let e : from + (to - from) / 2 ≡ k = omega arith in subst N e n.1))
    (λ i. let e : from ≡ k = omega arith in subst N e n.0)
  where
    N : ℕ → Type 0
    N x = name_byte_lem (byte_at s x) ≡ true

module _ (s : List ℕ) (from p to : ℕ) (before : Named s from p) where
  pub eight_more : Fours s p (p + 4) → Named s from (p + 8)
  eight_more f k l m =
      by_cases (name_byte_lem (byte_at s k) ≡ true) p k
      (λ g. by_cases (name_byte_lem (byte_at s k) ≡ true) (p + 4) k (λ i. f.1 k i (omega arith)) (λ i. f.0 k g i))
      (λ g. before k l g)

  pub last_eight : (q : ℕ) → q ≡ min p (to - 4) → from + 4 ≤ to → to ≤ p + 8 → Fours s q (to - 4) → Named s from to
  last_eight q e h r f k l m =
      by_cases (name_byte_lem (byte_at s k) ≡ true) p k
      (λ g. by_cases (name_byte_lem (byte_at s k) ≡ true) (to - 4) k (λ i. f.1 k i (omega arith)) (λ i. f.0 k (omega arith) (omega arith)))
      (λ g. before k l g)
