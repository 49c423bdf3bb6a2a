-- `in_literal` meets its contract.
use Rattle.seek.specs.Parts.{literal_first, literal_in}
use Rattle.seek.proofs.in_literal.Goals as goal

pub returns-then-want-q : goal.returns-then-want-q
returns-then-want-q c = literal_first c.alloc_reg-a.ensures c.reserve-q.ensures c.if-want-q.true c.own.ensures

pub returns : goal.returns
returns c = literal_in (rw c.body.ensures.0 at c.past-list.ensures.0) c.body-p.ensures.0 c.past-e.ensures.0 c.alloc_reg-a.ensures c.reserve-q.ensures c.if-want-q.false c.in_inits.ensures
