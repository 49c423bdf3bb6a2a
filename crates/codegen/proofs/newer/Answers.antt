-- newer meets its contract.
use mathlib.Core.Path.{refl}
use Rattle.rules.specs.Bytes.{pick}
use Rattle.codegen.proofs.newer.Goals as goal

pub returns-then-is : goal.returns-then-is
unfolding pick
returns-then-is c = rw c.if-is.true refl

pub returns-else-is : goal.returns-else-is
unfolding pick
returns-else-is c = rw c.if-is.false refl
