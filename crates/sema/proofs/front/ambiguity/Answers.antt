-- `front::ambiguity` meets its contract.
use Rattle.sema.proofs.Fronts.{spot_at, spot_none}
use Rattle.sema.proofs.front.ambiguity.Goals as goal

pub returns-in-Some : goal.returns-in-Some
returns-in-Some c = spot_at c.in-Some.ensures

pub returns-in-None : goal.returns-in-None
returns-in-None c = spot_none c.in-None.ensures
