-- `backward` meets its contract.
use mathlib.Core.Path.{refl}
use Rattle.rules.specs.Machine.{bits_of}
use native.Mathlib.Omega.{arith}
use Rattle.emit.proofs.backward.Goals as goal

-- src/lib.rt:133:1
pub returns-then-distance-le4294967296 : goal.returns-then-distance-le4294967296
unfolding bits_of
returns-then-distance-le4294967296 c = refl

-- src/lib.rt:133:1
pub returns-else-distance-le4294967296 : goal.returns-else-distance-le4294967296
unfolding bits_of
returns-else-distance-le4294967296 c = omega (arith, c.if-distance-le4294967296.false)
