-- declared meets its contract.
use Rattle.lookup.proofs.declared.Goals as goal

pub returns : goal.returns
returns c = rw (c.past.ensures.0, c.body.ensures.0) at c.type_at.ensures
