-- `in_mapping` meets its contract.
use Rattle.seek.specs.Parts.{mapping_in}
use Rattle.seek.proofs.in_mapping.Goals as goal

pub returns : goal.returns
returns c = mapping_in c.body.ensures.0 c.past-key.ensures.0 c.in_value.ensures
