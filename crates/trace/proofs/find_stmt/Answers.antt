-- `find_stmt` meets its contract.
use mathlib.Core.Path.{◌≡◌, refl, ◌∙◌}
use Prim.Native.Nat.{ℕ, ◌+◌, ◌-◌, ◌<◌}
use native.Mathlib.Omega.{arith}
use borrow.Author.Rules.{rules}
use Rattle.trace.specs.Lists.{down_begin, down_settled, down_go, down_end}
use Rattle.trace.proofs.find_stmt.Goals as goal

-- The depth that is left, from that of the parts.
deeper : (d : ℕ) → 0 < d → d - 1 + 1 ≡ d
deeper d l = omega (arith, l)

pub loop-d-init : goal.loop-d-init
loop-d-init c = λ st e. down_begin c.requires e

pub step_list-t-requires : goal.step_list-t-requires
step_list-t-requires c = rw (deeper c.loop-d.d c.loop-d-test.true) ((c.loop-d.invariant c.args.st c.block-t.ensures).ready, λ z. omega (arith, z, c.loop-d-test.true))

pub shape_of-scope-then-ne : goal.shape_of-scope-then-ne
shape_of-scope-then-ne c = c.step_list-t.auto.scope ∙ (c.loop-d.invariant c.args.st c.block-t.ensures).long

pub returns-then-ne : goal.returns-then-ne
returns-then-ne c = down_settled (c.loop-d.invariant c.args.st c.block-t.ensures) (rw (deeper c.loop-d.d c.loop-d-test.true) at c.step_list-t.ensures) refl (c.settle.ensures (search rules))

pub loop-d-preserved : goal.loop-d-preserved
loop-d-preserved c = λ st e. down_go (c.loop-d.invariant st e) (rw (deeper c.loop-d.d c.loop-d-test.true) at c.step_list-t.ensures) refl (search rules) c.step_list-t.auto.scope

pub shape_of-scope : goal.shape_of-scope
shape_of-scope c = (c.loop-d.invariant c.args.st c.block-t.ensures).long

pub returns : goal.returns
returns c = down_end (c.loop-d.invariant c.args.st c.block-t.ensures) _ (omega (arith, c.loop-d-test.false))
