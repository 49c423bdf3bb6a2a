-- `in_while` meets its contract.
use Rattle.trace.specs.Parts.{while_cond, while_loop}
use Rattle.trace.proofs.in_while.Goals as goal

pub returns-then-want-v : goal.returns-then-want-v
returns-then-want-v c = while_cond c.body-cond.ensures.0 c.count_expr-v.ensures c.if-want-v.true c.value.ensures

pub returns : goal.returns
returns c = while_loop c.body-cond.ensures.0 c.past-list.ensures.0 c.requires c.count_expr-v.ensures c.if-want-v.false c.in_loop.ensures
