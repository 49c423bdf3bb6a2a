-- name_key meets its contract.
use Rattle.records.proofs.name_key.Goals as goal

pub returns : goal.returns
returns c = rw (← c.name.ensures) c.key.ensures
