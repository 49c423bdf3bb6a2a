-- `in_args` meets its contract.
use Rattle.seek.specs.Lists.{rest_begin, args_go, args_in, args_past, args_whole}
use Rattle.seek.proofs.in_args.Goals as goal

pub loop-i-init : goal.loop-i-init
loop-i-init c = rest_begin

pub returns-then-e-p : goal.returns-then-e-p
returns-then-e-p c = args_past _ _ _ _ _ _ _ _ _ _ c.loop-i.invariant c.if-e-p.true c.own.ensures

pub returns-then-want-v : goal.returns-then-want-v
returns-then-want-v c = args_in _ _ _ _ _ _ _ _ _ _ c.loop-i.invariant c.loop-i-test.true c.if-e-p.false c.count_expr-v.ensures c.if-want-v.true c.value.ensures

pub loop-i-preserved : goal.loop-i-preserved
loop-i-preserved c = args_go _ _ _ _ _ _ _ _ _ _ c.loop-i.invariant c.loop-i-test.true c.if-e-p.false c.past-p.ensures.0 c.count_expr-v.ensures c.if-want-v.false

pub returns : goal.returns
returns c = args_whole _ _ _ _ _ _ _ _ _ _ c.loop-i.invariant c.loop-i-test.false c.own-2.ensures
