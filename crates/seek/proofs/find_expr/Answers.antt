-- `find_expr` meets its contract.
use mathlib.Core.Path.{refl}
use native.Mathlib.Omega.{arith}
use borrow.Author.Rules.{rules}
use Rattle.seek.specs.Lists.{down_begin, down_go, down_own, down_end}
use Rattle.seek.proofs.find_expr.Goals as goal

pub loop-d-init : goal.loop-d-init
loop-d-init c = λ st e. down_begin e

pub returns-then-ne : goal.returns-then-ne
returns-then-ne c = down_own (c.loop-d.invariant c.args.st c.value-t.ensures) (λ z. omega (arith, z, c.loop-d-test.true)) refl c.step_expr-t.ensures (search rules)

pub loop-d-preserved : goal.loop-d-preserved
loop-d-preserved c = λ st e. down_go (c.loop-d.invariant st e) (λ z. omega (arith, z, c.loop-d-test.true)) refl c.step_expr-t.ensures (search rules)

pub returns : goal.returns
returns c = down_end (c.loop-d.invariant c.args.st c.value-t.ensures) (omega (arith, c.loop-d-test.false))
