-- differ meets its contract.
use Rattle.ambiguous.specs.Spots.{clash}
use Rattle.ambiguous.proofs.apart.differ.Goals as goal

pub returns-in-Some-Some : goal.returns-in-Some-Some
unfolding clash
returns-in-Some-Some c = rw (c.in-Some-Some.is-0, c.in-Some-Some.is-1)

pub returns-in_default : goal.returns-in_default
unfolding clash
returns-in_default c = rw (c.in_default.is-0, c.in_default.is-1)

pub returns-in_default-2 : goal.returns-in_default-2
unfolding clash
returns-in_default-2 c = rw c.in_default.is-0
