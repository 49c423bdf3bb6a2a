-- bind_params meets its contract.
use native.Mathlib.Omega.{arith}
use Rattle.codegen.proofs.Params.{begins, goes, ends, no_more, no_room}
use Rattle.codegen.proofs.bind_params.Goals as goal

pub loop-n-init : goal.loop-n-init
loop-n-init c = begins _ _ _ _ _ _ _ c.requires.0

pub bind-requires : goal.bind-requires
bind-requires c = (omega (arith, c.loop-n.invariant.count, c.loop-n-test.true), (omega (arith, c.loop-n.invariant.size, c.requires.1.0), c.requires.1.1))

pub overflow_add-n : goal.overflow_add-n
overflow_add-n c = omega (arith, c.loop-n-test.true)

pub loop-n-smaller : goal.loop-n-smaller
loop-n-smaller c = omega (arith, c.loop-n-test.true)

pub loop-n-preserved : goal.loop-n-preserved
loop-n-preserved c = goes _ _ _ _ _ _ _ c.loop-n.invariant c.loop-n-test.true c.if-p-end.true c.alloc_reg-s.ensures c.body-in-loop-n.ensures.0 c.bind.ensures c.bind.auto.scope c.past-p.ensures.0

pub shape_of-scope-else-p-end : goal.shape_of-scope-else-p-end
shape_of-scope-else-p-end c = c.loop-n.invariant.size

pub returns-else-p-end : goal.returns-else-p-end
returns-else-p-end c = ends _ _ _ _ _ _ _ (rw (c.past-list.ensures.0, c.body.ensures.0) at c.body-p.ensures.0) (rw (c.past-list.ensures.0, c.body.ensures.0) at c.past-end.ensures.0) c.loop-n.invariant (no_more _ _ _ _ c.if-p-end.false)

pub shape_of-scope-after-loop-n : goal.shape_of-scope-after-loop-n
shape_of-scope-after-loop-n c = c.loop-n.invariant.size

pub returns-after-loop-n : goal.returns-after-loop-n
returns-after-loop-n c = ends _ _ _ _ _ _ _ (rw (c.past-list.ensures.0, c.body.ensures.0) at c.body-p.ensures.0) (rw (c.past-list.ensures.0, c.body.ensures.0) at c.past-end.ensures.0) c.loop-n.invariant (no_room _ _ _ _ (omega (arith, c.loop-n-test.false)))
