-- `image::is_var`: each return by its tests.
use borrow.Author.Tests.{eq-eqb, ne_eqb}
use Rattle.rules.specs.Check.{counts}
use Rattle.image.proofs.is_var.Goals as goal

pub returns-then-d-eq-PARAM : goal.returns-then-d-eq-PARAM
unfolding counts
returns-then-d-eq-PARAM c = let a = c.args in rw (eq-eqb a.d 22 c.if-d-eq-PARAM.true)

pub returns-then-kind-eq32 : goal.returns-then-kind-eq32
unfolding counts
returns-then-kind-eq32 c = let a = c.args in rw (ne_eqb a.d 22 c.if-d-eq-PARAM.false, eq-eqb a.kind 32 c.if-kind-eq32.true)

pub returns : goal.returns
unfolding counts
returns c = let a = c.args in rw (ne_eqb a.d 22 c.if-d-eq-PARAM.false, ne_eqb a.kind 32 c.if-kind-eq32.false)
