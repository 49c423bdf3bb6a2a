-- past meets its contract.
use native.Mathlib.Omega.{arith}
use Rattle.rules.specs.Bytes.{after}
use Rattle.records.proofs.past.Goals as goal

pub returns-then-size-left : goal.returns-then-size-left
unfolding after
returns-then-size-left c = omega arith

pub returns-else-size-left : goal.returns-else-size-left
unfolding after
returns-else-size-left c = omega arith

pub returns-else-left-ge4 : goal.returns-else-left-ge4
unfolding after
returns-else-left-ge4 c = omega arith

pub returns-else-i-n : goal.returns-else-i-n
unfolding after
returns-else-i-n c = omega arith
