-- same_name meets its contract.
use Rattle.records.proofs.same_name.Goals as goal

pub returns : goal.returns
returns c = rw (← c.name.ensures, ← c.name-2.ensures) c.same.ensures
