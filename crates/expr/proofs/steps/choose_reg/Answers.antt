-- `choose_reg` meets its contract.
use Rattle.expr.proofs.Chain.{left_chosen, right_chosen, new_chosen}
use Rattle.expr.proofs.steps.choose_reg.Goals as goal

pub returns-then-n-left : goal.returns-then-n-left
returns-then-n-left c = left_chosen _ c.args.st _ _ _ c.args.l c.args.r c.if-n-left.true c.with.ensures

pub returns-then-l-right : goal.returns-then-l-right
returns-then-l-right c = right_chosen _ c.args.st _ _ _ c.args.l c.args.r c.if-n-left.false c.if-l-right.true c.with-then-l-right.ensures

pub returns : goal.returns
returns c = new_chosen _ c.args.st _ _ _ c.args.l c.args.r c.if-n-left.false c.if-l-right.false c.with-a.ensures c.alloc_reg.ensures
