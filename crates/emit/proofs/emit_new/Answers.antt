-- `emit_new` meets its contract.
use Rattle.emit.specs.Leaves.{new_word}
use Rattle.emit.proofs.emit_new.Goals as goal

pub returns : goal.returns
returns c = new_word _ _ _ _ _ _ _ _ _ _ _ c.alloc_reg-new.ensures c.emit.ensures
