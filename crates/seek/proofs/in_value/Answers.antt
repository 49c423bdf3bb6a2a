-- `in_value` meets its contract.
use Rattle.seek.specs.Spots.{inside, behind}
use Rattle.seek.proofs.in_value.Goals as goal

pub returns-then-want-v : goal.returns-then-want-v
returns-then-want-v c = inside _ c.count_expr-v.ensures c.if-want-v.true c.value.ensures

pub returns : goal.returns
returns c = behind _ c.count_expr-v.ensures c.if-want-v.false c.own.ensures
