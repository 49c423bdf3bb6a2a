-- gen_opening meets its contract.
use Rattle.codegen.proofs.Pieces.{opened}
use Rattle.codegen.proofs.gen_opening.Goals as goal

pub returns : goal.returns
returns c = opened c.heap.ensures c.emit-heap.ensures c.emit_call-call.ensures c.emit.ensures
