-- `among_last` meets its contract.
use mathlib.Core.Path.{◌≡◌, refl, sym}
use mathlib.Core.Bool.{Bool, true, false}
use Prim.Native.Nat.{ℕ, ◌+◌, ◌-◌, ◌<◌}
use native.Mathlib.Omega.{arith}
use lib.Dec.{leb}
use borrow.Author.Tests.{leb-true, leb-false, le-leb, lt-leb}
use Rattle.trace.proofs.among_last.Goals as goal

-- The same test on what is left behind the word.
same_test : (w k e : ℕ) → w < e → leb (e - w) k ≡ leb e (w + k)
same_test w k e l = go (leb (e - w) k) refl
  where
    go : (b : Bool) → leb (e - w) k ≡ b → b ≡ leb e (w + k)
    go true h = sym (le-leb e (w + k) (omega (arith, leb-true (e - w) k h)))
    go false h = sym (lt-leb e (w + k) (omega (arith, leb-false (e - w) k h)))

pub returns-then-end-want : goal.returns-then-end-want
returns-then-end-want c = sym (le-leb c.args.end (c.args.want + c.args.k) (omega (arith, c.if-end-want.true)))

pub returns : goal.returns
returns c = same_test c.args.want c.args.k c.args.end c.if-end-want.false
