-- field_offset meets its contract.
use Rattle.fields.proofs.Positions.{offset_at, offset_none}
use Rattle.fields.specs.Steps.{all, past_all}
use Rattle.fields.specs.Spots.{searched}
use Rattle.rules.specs.Layout.{with_position, first_of}
use Rattle.rules.specs.Read.{contract_at}
use mathlib.Core.Path.{refl, ap, ◌∙◌}
use native.Mathlib.Omega.{arith}
use Rattle.fields.proofs.field_offset.Goals as goal

pub loop-i-init : goal.loop-i-init
loop-i-init c = ap first_of (all c.args.contract.now.img.now _)

pub overflow_mul-result : goal.overflow_mul-result
overflow_mul-result c = omega (arith, c.in-Some.ensures.below _ refl)

pub returns-in-Some : goal.returns-in-Some
returns-in-Some c = offset_at c.args.contract.now.img.now _ _ _ (c.loop-i.invariant ∙ ap first_of c.in-Some.ensures.is) ∙ ap (searched (contract_at c.args.contract.now.img.now)) c.name-name.ensures

pub loop-i-preserved : goal.loop-i-preserved
unfolding with_position
loop-i-preserved c = c.loop-i.invariant ∙ ap first_of (rw c.in_default.is at c.position_at.ensures.is)

pub returns : goal.returns
returns c = offset_none c.args.contract.now.img.now _ _ (past_all c.args.contract.now.img.now _ c.loop-i.i (rw c.struct_count-i-end.ensures at c.loop-i-test.false)) c.loop-i.invariant ∙ ap (searched (contract_at c.args.contract.now.img.now)) c.name-name.ensures
