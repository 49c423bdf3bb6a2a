-- `image::fault`: each return by its test.
use native.Mathlib.Omega.{arith}
use borrow.Author.Tests.{eq-eqb, ne_eqb}
use Rattle.rules.specs.Bytes.{pick}
use Rattle.image.specs.Within.{fault_of}
use Rattle.image.proofs.fault.Goals as goal

pub returns-then-d-eq0 : goal.returns-then-d-eq0
unfolding fault_of pick
returns-then-d-eq0 c = rw (eq-eqb c.args.d 0 (omega arith))

pub returns : goal.returns
unfolding fault_of pick
returns c = rw (ne_eqb c.args.d 0 (omega arith))
