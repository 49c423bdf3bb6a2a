-- `host::pack` meets its contract: the three numbers have room.
use native.Mathlib.Omega.{arith}
use Rattle.rules.specs.Build.{packed}
use Rattle.host.proofs.pack.Goals as goal

-- src/lib.rt:309:1
pub returns : goal.returns
unfolding packed
returns c = omega arith
