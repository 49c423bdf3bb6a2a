-- `local` meets its contract.
use Rattle.expr.proofs.Asked.{finds, finds_not}
use Rattle.expr.proofs.local.Goals as goal

-- src/lib.rt:33:1
pub returns-in-Some : goal.returns-in-Some
returns-in-Some c = finds _ _ _ _ _ _ _ _ _ c.lookup.ensures c.in-Some.is c.with.ensures

-- src/lib.rt:33:1
pub returns-in-None : goal.returns-in-None
returns-in-None c = finds_not _ _ _ _ _ _ _ _ c.lookup.ensures c.in-None.is c.fail.ensures
