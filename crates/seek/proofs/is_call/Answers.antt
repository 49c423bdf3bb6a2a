-- `is_call` meets its contract.
use mathlib.Core.Path.{◌≡◌, refl, sym}
use mathlib.Core.Bool.{Bool, true, false}
use Prim.Native.Nat.{ℕ, ◌+◌, ◌-◌, ◌≤◌}
use native.Mathlib.Omega.{arith}
use lib.Dec.{eqb}
use borrow.Author.Tests.{eqb-true, eqb-false, eq-eqb, ne_eqb}
use Rattle.seek.proofs.is_call.Goals as goal

-- The same test on what is left behind the word.
same_test : (w k e : ℕ) → 2 ≤ e - w → eqb (e - w - 2) k ≡ eqb (w + k + 2) e
same_test w k e l = go (eqb (e - w - 2) k) refl
  where
    go : (b : Bool) → eqb (e - w - 2) k ≡ b → b ≡ eqb (w + k + 2) e
    go true h = sym (eq-eqb (w + k + 2) e (omega (arith, eqb-true (e - w - 2) k h)))
    go false h = sym (ne_eqb (w + k + 2) e (λ x. eqb-false (e - w - 2) k h (omega arith)))

pub returns-then-end-want : goal.returns-then-end-want
returns-then-end-want c = sym (ne_eqb (c.args.want + c.args.k + 2) c.args.end (λ e. omega arith))

pub returns-then-left-lt2 : goal.returns-then-left-lt2
returns-then-left-lt2 c = sym (ne_eqb (c.args.want + c.args.k + 2) c.args.end (λ e. omega arith))

pub returns : goal.returns
returns c = same_test c.args.want c.args.k c.args.end c.if-left-lt2.false
