-- `why::because` meets its contract.
use mathlib.Core.Path.{◌≡◌, refl}
use mathlib.Core.List.{List}
use Prim.Native.Nat.{ℕ, ◌≤◌, ◌<◌}
use native.Mathlib.Omega.{arith}
use lib.ListN.{get_or}
use borrow.Author.Rules.{rules}
use borrow.Author.Tests.{lt-ltb, le-ltb}
use Rattle.std.specs.Prelude.{None, Some}
use Rattle.rules.specs.Bytes.{pick}
use Rattle.rules.specs.Why.{because}
use Rattle.seek.specs.declared.Way.{Way}
use Rattle.seek.specs.declared.Way.TheVariants as way
use Rattle.why.specs.Tells.{leads_to}
use Rattle.why.proofs.because.Goals as goal

calling : (F : List ℕ) (t : ℕ) → t < 256 → leads_to F t way.Calls ≡ Some (get_or F t 0)
unfolding leads_to pick
calling F t l = rw (lt-ltb t 256 l) refl

nowhere : (F : List ℕ) (t : ℕ) → 256 ≤ t → leads_to F t way.Calls ≡ None
unfolding leads_to pick
nowhere F t l = rw (le-ltb t 256 l) refl

neither : (F : List ℕ) (t : ℕ) (w : Way) → (w ≡ way.Ahead → ⊥) → (w ≡ way.Calls → ⊥) → leads_to F t w ≡ None
unfolding leads_to
neither F t way.Ahead a b = absurd (a refl)
neither F t way.Calls a b = absurd (b refl)
neither F t way.Plain a b = refl
neither F t way.Value a b = refl
neither F t way.Block a b = refl
neither F t way.Stmt a b = refl

pub returns-in-Ahead : goal.returns-in-Ahead
unfolding because leads_to
returns-in-Ahead c = rw c.in-Ahead.is refl

pub returns-in-Calls : goal.returns-in-Calls
unfolding because
returns-in-Calls c = rw (c.in-Calls.is, calling c.args.firsts.now c.args.s.to c.if-to-lt256.true) refl

pub returns-in_default : goal.returns-in_default
unfolding because
returns-in_default c = rw (c.in-Calls.is, nowhere c.args.firsts.now c.args.s.to c.if-to-lt256.false) refl

pub returns-in_default-2 : goal.returns-in_default-2
unfolding because
returns-in_default-2 c = rw (neither c.args.firsts.now c.args.s.to c.args.s.way c.in_default.not-Ahead (search rules)) refl
