-- `image::is_small`: each return by its test.
use Prim.Native.Nat.{◌-◌}
use native.Mathlib.Omega.{arith}
use borrow.Author.Tests.{eq-eqb, ne_eqb}
use Rattle.rules.specs.Check.{small}
use Rattle.image.proofs.is_small.Goals as goal

pub returns-then-to-from-eq1 : goal.returns-then-to-from-eq1
unfolding small
returns-then-to-from-eq1 c = let a = c.args in rw (eq-eqb (a.to - a.from) 1 (omega arith), ← c.from.ensures)

pub returns-else-to-from-eq1 : goal.returns-else-to-from-eq1
unfolding small
returns-else-to-from-eq1 c = let a = c.args in rw (ne_eqb (a.to - a.from) 1 (omega arith))
