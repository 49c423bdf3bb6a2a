-- `image::read::all_name`: the bytes before `p` are of a name; where the few or the eight from there on are not told, one by one decides.
use Prim.Native.Nat.{◌-◌, ◌≤◌}
use Rattle.image.specs.Names.{Named}
use Rattle.image.proofs.read.all_name.Given as goal

abbrev pub invariant-loop-p : goal.invariant-loop-p
invariant-loop-p l = (l.from ≤ l.p) × (l.p ≤ l.to) × Named l.s l.from l.p

abbrev pub decreases-loop-p : goal.decreases-loop-p
decreases-loop-p l = l.to - l.p
