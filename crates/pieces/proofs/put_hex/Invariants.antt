-- `pieces::put_hex` meets its contract: from the last digit to the first.
use Rattle.pieces.specs.Hex.{Hexing}
use Rattle.pieces.proofs.put_hex.Given as goal

abbrev pub invariant-loop-i : goal.invariant-loop-i
invariant-loop-i l = Hexing l.left l.v l.n l.initial.out l.out l.i l.rest
