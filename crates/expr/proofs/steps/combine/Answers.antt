-- `combine` meets its contract.
use Rattle.expr.proofs.Chain.{combines}
use Rattle.expr.proofs.steps.combine.Goals as goal

pub returns : goal.returns
returns c = combines _ c.args.st _ _ _ _ _ _ c.args.l c.args.r _ c.choose_reg-d.ensures c.emit-e.ensures c.free_above.ensures c.with.ensures
