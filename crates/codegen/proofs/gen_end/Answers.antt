-- gen_end meets its contract.
use Rattle.codegen.proofs.Pieces.{ended}
use Rattle.codegen.proofs.gen_end.Goals as goal

pub returns : goal.returns
returns c = ended c.alloc_reg-temp.ensures c.emit-back.ensures c.alloc_reg-zero.ensures c.emit-value.ensures c.leave.ensures
