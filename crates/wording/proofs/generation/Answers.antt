-- `wording::generation` meets its contract: each arm is a line of the table.
use Rattle.rules.specs.Texts.{bytes, text_of}
use borrow.Author.Tests.{ne_eqb}
use Rattle.rules.specs.Bytes.{pick}
use Rattle.bounds.specs.Texts.{generated_as}
use Rattle.wording.proofs.generation.Goals as goal

pub put-requires : goal.put-requires
unfolding text_of generated_as pick bytes
put-requires c = rw c.in-40.is at c.requires

pub put-requires-in-41 : goal.put-requires-in-41
unfolding text_of generated_as pick bytes
put-requires-in-41 c = rw c.in-41.is at c.requires

pub named-requires : goal.named-requires
unfolding text_of generated_as pick bytes
named-requires c = rw c.body-x.ensures.0 (rw c.in-42.is at c.requires)

pub named-requires-in-43 : goal.named-requires-in-43
unfolding text_of generated_as pick bytes
named-requires-in-43 c = rw c.body-x.ensures.0 (rw c.in-43.is at c.requires)

pub named-requires-in-44 : goal.named-requires-in-44
unfolding text_of generated_as pick bytes
named-requires-in-44 c = rw c.body-x.ensures.0 (rw c.in-44.is at c.requires)

pub named-requires-in-45 : goal.named-requires-in-45
unfolding text_of generated_as pick bytes
named-requires-in-45 c = rw c.body-x.ensures.0 (rw c.in-45.is at c.requires)

pub named-requires-in-46 : goal.named-requires-in-46
unfolding text_of generated_as pick bytes
named-requires-in-46 c = rw c.body-x.ensures.0 (rw c.in-46.is at c.requires)

pub named-requires-in_default : goal.named-requires-in_default
unfolding text_of generated_as pick bytes
named-requires-in_default c = rw c.body-x.ensures.0 (rw (ne_eqb _ 40 c.in_default.in_default-own.rest.0.0.0.0.0.0.1, ne_eqb _ 41 c.in_default.in_default-own.rest.0.0.0.0.0.1, ne_eqb _ 42 c.in_default.in_default-own.rest.0.0.0.0.1, ne_eqb _ 43 c.in_default.in_default-own.rest.0.0.0.1, ne_eqb _ 44 c.in_default.in_default-own.rest.0.0.1, ne_eqb _ 45 c.in_default.in_default-own.rest.0.1, ne_eqb _ 46 c.in_default.in_default-own.rest.1) at c.requires)

pub returns-in-40 : goal.returns-in-40
unfolding text_of generated_as pick bytes
returns-in-40 c = rw c.in-40.is c.put.ensures

pub returns-in-41 : goal.returns-in-41
unfolding text_of generated_as pick bytes
returns-in-41 c = rw c.in-41.is c.put-in-41.ensures

pub returns-in-42 : goal.returns-in-42
unfolding text_of generated_as pick bytes
returns-in-42 c = rw c.in-42.is (rw c.body-x.ensures.0 at c.named.ensures)

pub returns-in-43 : goal.returns-in-43
unfolding text_of generated_as pick bytes
returns-in-43 c = rw c.in-43.is (rw c.body-x.ensures.0 at c.named-in-43.ensures)

pub returns-in-44 : goal.returns-in-44
unfolding text_of generated_as pick bytes
returns-in-44 c = rw c.in-44.is (rw c.body-x.ensures.0 at c.named-in-44.ensures)

pub returns-in-45 : goal.returns-in-45
unfolding text_of generated_as pick bytes
returns-in-45 c = rw c.in-45.is (rw c.body-x.ensures.0 at c.named-in-45.ensures)

pub returns-in-46 : goal.returns-in-46
unfolding text_of generated_as pick bytes
returns-in-46 c = rw c.in-46.is (rw c.body-x.ensures.0 at c.named-in-46.ensures)

pub returns-in_default : goal.returns-in_default
unfolding text_of generated_as pick bytes
returns-in_default c = rw (ne_eqb _ 40 c.in_default.in_default-own.rest.0.0.0.0.0.0.1, ne_eqb _ 41 c.in_default.in_default-own.rest.0.0.0.0.0.1, ne_eqb _ 42 c.in_default.in_default-own.rest.0.0.0.0.1, ne_eqb _ 43 c.in_default.in_default-own.rest.0.0.0.1, ne_eqb _ 44 c.in_default.in_default-own.rest.0.0.1, ne_eqb _ 45 c.in_default.in_default-own.rest.0.1, ne_eqb _ 46 c.in_default.in_default-own.rest.1) (rw c.body-x.ensures.0 at c.named-in_default.ensures)
