-- is_name meets its contract.
use Rattle.records.proofs.is_name.Goals as goal

pub returns : goal.returns
returns c = rw (← c.name.ensures) c.same.ensures
