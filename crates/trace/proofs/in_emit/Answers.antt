-- `in_emit` meets its contract.
use native.Mathlib.Omega.{arith}
use Rattle.stmt.proofs.Lists.{goes_on}
use Rattle.trace.specs.Lists.{logs_begin, logs_go, logs_in, logs_own, logs_end}
use Rattle.trace.proofs.in_emit.Goals as goal

pub loop-p-init : goal.loop-p-init
loop-p-init c = logs_begin

pub returns-then-want-v : goal.returns-then-want-v
returns-then-want-v c = logs_in c.loop-p.invariant c.args.analysed.now.contract.tabled.small c.past-e.ensures.1 c.loop-p-test.true (rw c.body.ensures.0 at c.past-list.ensures.0) c.body-p.ensures.0 c.past-e.ensures.0 c.count_expr-v.ensures c.if-want-v.true c.value.ensures

pub returns-then-want-s : goal.returns-then-want-s
returns-then-want-s c = logs_own c.loop-p.invariant c.args.analysed.now.contract.tabled.small c.past-e.ensures.1 c.loop-p-test.true (rw c.body.ensures.0 at c.past-list.ensures.0) c.body-p.ensures.0 c.past-e.ensures.0 c.count_expr-v.ensures c.if-want-v.false c.reserve-s.ensures c.if-want-s.true c.own.ensures

pub loop-p-smaller : goal.loop-p-smaller
loop-p-smaller c = omega (arith, goes_on c.args.analysed.now.contract.img.now c.loop-p.p c.past-e.result c.loop-p-test.true c.past-e.ensures.1, c.past-p.ensures.0)

pub loop-p-preserved : goal.loop-p-preserved
loop-p-preserved c = logs_go c.loop-p.invariant c.args.analysed.now.contract.tabled.small c.past-e.ensures.1 c.loop-p-test.true c.past-p.ensures.0 c.count_expr-v.ensures c.if-want-v.false c.reserve-s.ensures c.if-want-s.false

pub returns : goal.returns
returns c = logs_end c.loop-p.invariant (rw c.body.ensures.0 at c.past-list.ensures.0) c.body-p.ensures.0 c.past-e.ensures.0 c.loop-p-test.false c.own-2.ensures
