-- body meets its contract.
use native.Mathlib.Omega.{arith}
use Rattle.rules.specs.Bytes.{inside}
use Rattle.records.proofs.body.Goals as goal

pub returns-then-n-i-ge6 : goal.returns-then-n-i-ge6
unfolding inside
returns-then-n-i-ge6 c = omega arith

pub returns-else-n-i-ge6 : goal.returns-else-n-i-ge6
unfolding inside
returns-else-n-i-ge6 c = omega arith

pub returns-else-i-n : goal.returns-else-i-n
unfolding inside
returns-else-i-n c = omega arith
