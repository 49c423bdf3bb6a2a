-- `image::vars_in`: each return by its tests.
use native.Mathlib.Omega.{arith}
use borrow.Author.Tests.{eq-eqb, ne_eqb}
use borrow.Author.Rules.{rules}
use Rattle.rules.specs.Bytes.{pick}
use Rattle.rules.specs.Check.{vars_in_lem}
use Rattle.image.proofs.vars_in.Goals as goal

pub returns-then-kind-eq19 : goal.returns-then-kind-eq19
unfolding pick vars_in_lem
returns-then-kind-eq19 c = let a = c.args in (rw (eq-eqb a.kind 19 (omega arith)), search rules)

pub returns-then-is_var : goal.returns-then-is_var
unfolding pick vars_in_lem
returns-then-is_var c = let a = c.args in (rw (ne_eqb a.kind 19 (omega arith), ← c.is_var.ensures, c.if-is_var.true), search rules)

pub returns-else-is_var : goal.returns-else-is_var
unfolding pick vars_in_lem
returns-else-is_var c = let a = c.args in (rw (ne_eqb a.kind 19 (omega arith), ← c.is_var.ensures, c.if-is_var.false), search rules)
