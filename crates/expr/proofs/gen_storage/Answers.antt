-- `gen_storage` meets its contract.
use Rattle.expr.proofs.Walk.{storage_value}
use Rattle.expr.proofs.gen_storage.Goals as goal

pub returns : goal.returns
returns c = λ s f. storage_value c.args.contract.now.img.now s _ _ _ _ _ _ _ f _ _ c.body.ensures.0 c.alloc_reg-a.ensures c.storage_slot-s.ensures c.emit.ensures
