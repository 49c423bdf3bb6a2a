-- `image::grammar::dues_of`: each return by its test; a List's row is in the table.
use native.Mathlib.Omega.{arith}
use borrow.Author.Tests.{eq-eqb, ne_eqb}
use Rattle.rules.specs.Bytes.{pick}
use Rattle.image.specs.Rows.{inner}
use Rattle.image.proofs.grammar.dues_of.Goals as goal

pub overflow_add-result : goal.overflow_add-result
overflow_add-result c = let h = c.requires.1 c.if-kind-eq2.true in omega arith

pub offset_bounds-t-d : goal.offset_bounds-t-d
offset_bounds-t-d c = let h = c.requires.1 c.if-kind-eq2.true in omega arith

pub bounds-t-d : goal.bounds-t-d
bounds-t-d c = let h = c.requires.1 c.if-kind-eq2.true in omega arith

pub returns-then-kind-eq2 : goal.returns-then-kind-eq2
unfolding inner pick
returns-then-kind-eq2 c = rw (eq-eqb c.args.kind 2 (omega arith))

pub returns-else-kind-eq2 : goal.returns-else-kind-eq2
unfolding inner pick
returns-else-kind-eq2 c = rw (ne_eqb c.args.kind 2 (omega arith))
