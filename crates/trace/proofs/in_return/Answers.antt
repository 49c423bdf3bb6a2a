-- `in_return` meets its contract.
use Rattle.trace.specs.Parts.{return_first, return_value, return_rest}
use Rattle.trace.proofs.in_return.Goals as goal

pub returns-then-want-t : goal.returns-then-want-t
returns-then-want-t c = return_first c.alloc_reg-a.ensures c.reserve-t.ensures c.if-want-t.true c.own.ensures

pub returns-then-value-past : goal.returns-then-value-past
returns-then-value-past c = return_value c.body-value.ensures.0 c.past.ensures.0 c.if-value-past.true c.alloc_reg-a.ensures c.reserve-t.ensures c.if-want-t.false c.in_value.ensures

pub returns : goal.returns
returns c = return_rest c.body-value.ensures.0 c.past.ensures.0 c.if-value-past.false c.own-2.ensures
