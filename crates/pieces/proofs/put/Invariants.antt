-- `pieces::put` meets its contract. The invariant: the first i bytes lie from n on.
use mathlib.Core.Path.{◌≡◌}
use lib.ListN.{take}
use Rattle.lent.specs.Over.{over_at}
use Rattle.pieces.proofs.put.Given as goal

abbrev pub invariant-loop-i : goal.invariant-loop-i
invariant-loop-i l = l.out ≡ over_at l.n (take l.i l.s) l.initial.out
