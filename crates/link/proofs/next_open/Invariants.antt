-- `link::next_open` meets its contract: in both loops the words so far are closed.
use Prim.Native.Nat.{◌-◌}
use Rattle.link.specs.Closed.{Shut, Closed}
use Rattle.link.proofs.next_open.Given as goal

abbrev pub invariant-loop-i : goal.invariant-loop-i
invariant-loop-i l = Closed (Shut l.code) l.from l.end l.i

abbrev pub decreases-loop-i : goal.decreases-loop-i
decreases-loop-i l = l.end - l.i

abbrev pub invariant-loop-i-2 : goal.invariant-loop-i-2
invariant-loop-i-2 l = Closed (Shut l.code) l.from l.end l.i

abbrev pub decreases-loop-i-2 : goal.decreases-loop-i-2
decreases-loop-i-2 l = l.end - l.i
