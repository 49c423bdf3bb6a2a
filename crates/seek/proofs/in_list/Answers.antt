-- `in_list` meets its contract.
use Rattle.seek.specs.Parts.{list_at}
use Rattle.seek.proofs.in_list.Goals as goal

pub returns : goal.returns
returns c = list_at (rw c.body.ensures.0 at c.past-list.ensures.0) c.body-p.ensures.0 c.past-e.ensures.0 c.in_args.ensures
