-- last_of meets its contract.
use Rattle.rules.specs.Bytes.{pick}
use Rattle.lookup.proofs.last_of.Goals as goal

pub returns-then-is : goal.returns-then-is
unfolding pick
returns-then-is c = rw c.if-is.true

pub returns-else-is : goal.returns-else-is
unfolding pick
returns-else-is c = rw c.if-is.false
