-- Tests that are computed for every number below a bound.
-- Assumes nothing.
use mathlib.Core.Path.{◌≡◌, refl, subst}
use mathlib.Core.Bool.{Bool, true, false}
use Prim.Native.Nat.{ℕ, zero, suc, ◌≤◌, ◌<◌}
use native.Mathlib.Omega.{arith}
use borrow.Author.Tests.{leb-true, leb-false}
use lib.Dec.{T, leb}
use Rattle.rules.specs.Bytes.{◌and◌}

pub by_cases : (P : Type 0) (a b : ℕ) → (a ≤ b → P) → (b < a → P) → P
by_cases P a b f g = go (leb a b) refl
  where
    go : (v : Bool) → leb a b ≡ v → P
    go true e = f (leb-true a b e)
    go false e = g (leb-false a b e)

abbrev pub every : ℕ → (ℕ → Bool) → Bool
every zero f = true
every (suc n) f = f n and every n f

pub both : (a b : Bool) → T (a and b) → T a × T b
both true b t = (tt, t)
both false b t = absurd t

pub every_at : (n : ℕ) (f : ℕ → Bool) (k : ℕ) → T (every n f) → k < n → T (f k)
every_at zero f k h l = absurd (omega arith)
every_at (suc n) f k h l =
    let b = both (f n) (every n f) h in
    by_cases (T (f k)) n k (λ g. let e : n ≡ k = omega arith in subst (λ (x : ℕ). T (f x)) e b.0) (λ g. every_at n f k b.1 g)

pub truth : (b : Bool) → T b → b ≡ true
truth true t = refl
truth false t = absurd t
