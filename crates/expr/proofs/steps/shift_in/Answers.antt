-- `shift_in` meets its contract.
use Rattle.expr.proofs.Chain.{shifts_none, shifts_some}
use Rattle.expr.proofs.steps.shift_in.Goals as goal

pub returns-then-chunk-eq0 : goal.returns-then-chunk-eq0
returns-then-chunk-eq0 c = shifts_none _ _ _ _ _ _ c.if-chunk-eq0.true c.emit-a.ensures

pub returns : goal.returns
returns c = shifts_some _ _ _ _ _ _ c.if-chunk-eq0.false c.emit-a.ensures c.emit-b.ensures c.emit.ensures
