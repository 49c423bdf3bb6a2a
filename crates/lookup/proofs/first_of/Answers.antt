-- first_of meets its contract.
use borrow.Author.Tests.{eq-eqb, ne_eqb}
use Rattle.rules.specs.Bytes.{pick}
use Rattle.lookup.proofs.first_of.Goals as goal

pub returns-then-first-eq64 : goal.returns-then-first-eq64
unfolding pick
returns-then-first-eq64 c = rw (c.if-is.true, eq-eqb _ _ c.if-first-eq64.true)

pub returns-else-first-eq64 : goal.returns-else-first-eq64
unfolding pick
returns-else-first-eq64 c = rw (c.if-is.true, ne_eqb _ _ c.if-first-eq64.false)

pub returns-else-is : goal.returns-else-is
unfolding pick
returns-else-is c = rw c.if-is.false
