-- `link::link` meets its contract, by the laws of Turns.
use Prim.Native.Nat.{◌-◌}
use Rattle.link.proofs.Turns.{Linking}
use Rattle.link.proofs.link.Given as goal

abbrev pub invariant-loop-i : goal.invariant-loop-i
invariant-loop-i l = Linking l.firsts l.initial.code l.end l.code l.i

abbrev pub decreases-loop-i : goal.decreases-loop-i
decreases-loop-i l = l.end - l.i
