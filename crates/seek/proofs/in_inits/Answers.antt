-- `in_inits` meets its contract.
use Rattle.seek.specs.Lists.{rest_begin, inits_go, inits_in, inits_past, inits_whole}
use Rattle.seek.proofs.in_inits.Goals as goal

pub loop-i-init : goal.loop-i-init
loop-i-init c = rest_begin

pub returns-then-e-p : goal.returns-then-e-p
returns-then-e-p c = inits_past _ _ _ _ _ _ _ _ _ _ c.loop-i.invariant c.if-e-p.true c.own.ensures

pub returns-then-want-v : goal.returns-then-want-v
returns-then-want-v c = inits_in _ _ _ _ _ _ _ _ _ _ c.loop-i.invariant c.loop-i-test.true c.if-e-p.false (rw c.body.ensures.0 at c.past-x.ensures.0) c.count_expr-v.ensures c.if-want-v.true c.value.ensures

pub loop-i-preserved : goal.loop-i-preserved
loop-i-preserved c = inits_go _ _ _ _ _ _ _ _ _ _ c.loop-i.invariant c.loop-i-test.true c.if-e-p.false (rw c.body.ensures.0 at c.past-x.ensures.0) c.past-p.ensures.0 c.count_expr-v.ensures c.if-want-v.false

pub returns : goal.returns
returns c = inits_whole _ _ _ _ _ _ _ _ _ _ c.loop-i.invariant c.loop-i-test.false c.own-2.ensures
