-- `storage_slot` meets its contract.
use Rattle.expr.proofs.Asked.{has_slot, no_slot}
use Rattle.expr.proofs.storage_slot.Goals as goal

-- src/lib.rt:43:1
pub returns-in-Some : goal.returns-in-Some
returns-in-Some c = has_slot _ _ _ _ _ _ _ c.storage_named.ensures c.in-Some.is

-- src/lib.rt:43:1
pub returns-in-None : goal.returns-in-None
returns-in-None c = no_slot _ _ _ _ _ _ _ c.storage_named.ensures c.in-None.is c.fail.ensures
