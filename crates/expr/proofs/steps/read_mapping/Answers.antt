-- `read_mapping` meets its contract.
use Rattle.expr.proofs.Chain.{reads_mapping}
use Rattle.expr.proofs.steps.read_mapping.Goals as goal

pub returns : goal.returns
returns c = reads_mapping _ _ _ _ _ _ _ c.emit_new-b.ensures c.emit_new-t.ensures c.emit_new.ensures
