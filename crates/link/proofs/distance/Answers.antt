-- `link::distance` meets its contract: the test tells whether there is such a function.
use mathlib.Core.Path.{refl}
use borrow.Author.Tests.{lt-ltb, le-ltb}
use Rattle.rules.specs.Bytes.{pick}
use Rattle.link.specs.Linked.{distance_to}
use Rattle.link.proofs.distance.Goals as goal

pub returns-then-function-firsts : goal.returns-then-function-firsts
unfolding distance_to pick
returns-then-function-firsts c = rw (lt-ltb _ _ c.if-function-firsts.true, ← c.low.ensures, ← c.low-then-function-firsts.ensures) c.offset.ensures

pub returns-else-function-firsts : goal.returns-else-function-firsts
unfolding distance_to pick
returns-else-function-firsts c = rw (le-ltb _ _ c.if-function-firsts.false) refl
