-- `in_mapping` meets its contract.
use Rattle.trace.specs.Parts.{mapping_left, mapping_right}
use Rattle.trace.proofs.in_mapping.Goals as goal

pub returns-then-want-a : goal.returns-then-want-a
returns-then-want-a c = mapping_left c.body.ensures.0 c.past-key.ensures.0 c.count_expr-a.ensures c.if-want-a.true c.value.ensures

pub returns : goal.returns
returns c = mapping_right c.body.ensures.0 c.past-key.ensures.0 c.past-value.ensures.0 c.count_expr-a.ensures c.if-want-a.false c.in_value.ensures
