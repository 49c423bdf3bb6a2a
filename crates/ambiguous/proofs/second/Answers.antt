-- second meets its contract.
use Rattle.ambiguous.proofs.second.Goals as goal

pub returns : goal.returns
returns c = rw c.body.ensures.0 at c.past.ensures.0
