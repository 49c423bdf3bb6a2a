-- `in_if` meets its contract.
use native.Mathlib.Omega.{arith}
use lib.ListN.{length-set}
use Rattle.rules.specs.Read.{stmt_as}
use Rattle.bounds.specs.Sizes.{vars}
use Rattle.stmt.proofs.Names.{fewer}
use Rattle.stmt.proofs.Trees.{third_is}
use Rattle.trace.specs.Parts.{if_cond, if_jnz, if_else, if_jmp, if_then}
use Rattle.trace.proofs.in_if.Goals as goal

pub returns-then-want-v : goal.returns-then-want-v
returns-then-want-v c = if_cond c.body-cond.ensures.0 c.count_expr-v.ensures c.if-want-v.true c.value.ensures

pub bounds-scope-0 : goal.bounds-scope-0
bounds-scope-0 c = omega (arith, c.requires.size)

pub count_else-e-requires : goal.count_else-e-requires
unfolding vars stmt_as
count_else-e-requires c = rw (third_is c.args.analysed.now.contract.img.now c.args.at c.body-cond.ensures.0 c.past-then.ensures.0 c.past-other.ensures.0, c.past-stop.ensures.0) (fewer c.requires (omega arith))

pub shape_of-scope-then-want-a : goal.shape_of-scope-then-want-a
shape_of-scope-then-want-a c = c.count_else-e.auto.scope

pub returns-then-want-a : goal.returns-then-want-a
returns-then-want-a c = if_jnz (record { cond = c.body-cond.ensures.0; then = c.past-then.ensures.0; else = c.past-other.ensures.0; ends = c.past-stop.ensures.0; counts = c.count_expr-v.ensures; opens = c.open_slot-a.ensures; counted = c.count_else-e.ensures; keeps = c.reserve-b.ensures }) c.if-want-v.false c.if-want-a.true c.jump.ensures

pub bounds-scope-0-then-want-e : goal.bounds-scope-0-then-want-e
bounds-scope-0-then-want-e c = omega (arith, c.requires.size, c.count_else-e.auto.scope)

pub shape_of-scope-then-want-e : goal.shape_of-scope-then-want-e
shape_of-scope-then-want-e c = simp length-set c.count_else-e.auto.scope

pub returns-then-want-e : goal.returns-then-want-e
returns-then-want-e c = if_else (record { cond = c.body-cond.ensures.0; then = c.past-then.ensures.0; else = c.past-other.ensures.0; ends = c.past-stop.ensures.0; counts = c.count_expr-v.ensures; opens = c.open_slot-a.ensures; counted = c.count_else-e.ensures; keeps = c.reserve-b.ensures }) c.requires c.count_else-e.auto.scope c.if-want-v.false c.if-want-a.false c.if-want-e.true c.block.ensures

pub shape_of-scope-then-want-b : goal.shape_of-scope-then-want-b
shape_of-scope-then-want-b c = c.count_else-e.auto.scope

pub returns-then-want-b : goal.returns-then-want-b
returns-then-want-b c = if_jmp (record { cond = c.body-cond.ensures.0; then = c.past-then.ensures.0; else = c.past-other.ensures.0; ends = c.past-stop.ensures.0; counts = c.count_expr-v.ensures; opens = c.open_slot-a.ensures; counted = c.count_else-e.ensures; keeps = c.reserve-b.ensures }) c.if-want-v.false c.if-want-e.false c.if-want-b.true c.jump-then-want-b.ensures

pub shape_of-scope : goal.shape_of-scope
shape_of-scope c = c.count_else-e.auto.scope

pub returns : goal.returns
returns c = if_then (record { cond = c.body-cond.ensures.0; then = c.past-then.ensures.0; else = c.past-other.ensures.0; ends = c.past-stop.ensures.0; counts = c.count_expr-v.ensures; opens = c.open_slot-a.ensures; counted = c.count_else-e.ensures; keeps = c.reserve-b.ensures }) c.requires c.count_else-e.auto.scope c.if-want-v.false c.if-want-e.false c.if-want-b.false c.block-2.ensures
