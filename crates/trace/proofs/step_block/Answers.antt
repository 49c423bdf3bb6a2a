-- `step_block` meets its contract.
use mathlib.Core.Path.{◌∙◌}
use native.Mathlib.Omega.{arith}
use lib.ListN.{length-set}
use Rattle.stmt.proofs.Lists.{goes_on}
use Rattle.trace.specs.Lists.{rest_begin, rest_ready, rest_go, rest_in, rest_last, rest_end}
use Rattle.trace.proofs.step_block.Goals as goal

pub loop-p-init : goal.loop-p-init
loop-p-init c = rest_begin (rw (← c.body-p.ensures.0, ← c.past-e.ensures.0) at c.requires)

pub shape_of-scope-then-e-q : goal.shape_of-scope-then-e-q
shape_of-scope-then-e-q c = c.loop-p.invariant.long

pub returns-then-e-q : goal.returns-then-e-q
returns-then-e-q c = rest_last c.loop-p.invariant c.args.analysed.now.contract.tabled.small c.past-e.ensures.1 c.loop-p-test.true c.body-p.ensures.0 c.past-e.ensures.0 c.past-q.ensures.0 c.if-e-q.true c.stmt_at.ensures

pub bounds-scope-0 : goal.bounds-scope-0
bounds-scope-0 c = omega (arith, c.loop-p.invariant.ready.size)

pub count_stmt-a-requires : goal.count_stmt-a-requires
count_stmt-a-requires c = (rest_ready c.loop-p.invariant c.args.analysed.now.contract.tabled.small c.past-e.ensures.1 c.loop-p-test.true, omega (arith, c.past-e.ensures.1, c.loop-p-test.true))

pub bounds-scope-0-then-want-a : goal.bounds-scope-0-then-want-a
bounds-scope-0-then-want-a c = omega (arith, c.loop-p.invariant.ready.size, c.count_stmt-a.auto.scope)

pub shape_of-scope-then-want-a : goal.shape_of-scope-then-want-a
shape_of-scope-then-want-a c = simp length-set (c.count_stmt-a.auto.scope ∙ c.loop-p.invariant.long)

pub returns-then-want-a : goal.returns-then-want-a
returns-then-want-a c = rest_in c.loop-p.invariant c.args.analysed.now.contract.tabled.small c.past-e.ensures.1 c.loop-p-test.true c.body-p.ensures.0 c.past-e.ensures.0 c.count_stmt-a.ensures c.count_stmt-a.auto.scope c.if-want-a.true c.stmt_at-then-want-a.ensures

pub loop-p-smaller : goal.loop-p-smaller
loop-p-smaller c = omega (arith, goes_on c.args.analysed.now.contract.img.now c.loop-p.p c.past-e.result c.loop-p-test.true c.past-e.ensures.1, c.past-q.ensures.0)

pub loop-p-preserved : goal.loop-p-preserved
loop-p-preserved c = rest_go c.loop-p.invariant c.args.analysed.now.contract.tabled.small c.past-e.ensures.1 c.loop-p-test.true c.past-q.ensures.0 c.count_stmt-a.ensures c.count_stmt-a.auto.scope c.if-want-a.false

pub shape_of-scope : goal.shape_of-scope
shape_of-scope c = c.loop-p.invariant.long

pub returns : goal.returns
returns c = rest_end c.loop-p.invariant c.body-p.ensures.0 c.past-e.ensures.0 c.loop-p-test.false c.own.ensures
