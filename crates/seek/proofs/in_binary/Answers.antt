-- `in_binary` meets its contract.
use Rattle.seek.specs.Parts.{binary_left, binary_right}
use Rattle.seek.proofs.in_binary.Goals as goal

pub returns-then-want-a : goal.returns-then-want-a
returns-then-want-a c = binary_left c.body-left.ensures.0 c.count_expr-a.ensures c.if-want-a.true c.value.ensures

pub returns : goal.returns
returns c = binary_right c.body-left.ensures.0 c.past-op.ensures.0 c.past-right.ensures.0 c.count_expr-a.ensures c.if-want-a.false c.in_value.ensures
