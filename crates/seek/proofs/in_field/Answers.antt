-- `in_field` meets its contract.
use Rattle.seek.specs.Parts.{field_in}
use Rattle.seek.proofs.in_field.Goals as goal

pub returns : goal.returns
returns c = field_in c.body-base.ensures.0 c.in_value.ensures
