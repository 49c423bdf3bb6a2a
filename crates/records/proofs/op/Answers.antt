-- op meets its contract.
use Rattle.rules.specs.Bytes.{op_at}
use Rattle.records.proofs.op.Goals as goal

pub returns : goal.returns
unfolding op_at
returns c = (rw (c.byte.ensures.0, c.body.ensures.0), c.byte.ensures.1)
