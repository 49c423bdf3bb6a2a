-- field_spot meets its contract.
use Prim.Native.Nat.{◌-◌}
use Rattle.lookup.proofs.Spots.{Walk}
use Rattle.lookup.proofs.field_spot.Given as goal

abbrev pub invariant-loop-n : goal.invariant-loop-n
invariant-loop-n l = Walk l.img l.l l.x l.end l.p l.n l.first l.last

abbrev pub decreases-loop-n : goal.decreases-loop-n
decreases-loop-n l = 64 - l.n
