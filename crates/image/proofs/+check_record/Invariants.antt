-- `image::check_record`: all the parts are as those that are left (`Turn`), whatever record it is in which they are due.
use Prim.Native.Nat.{◌-◌}
use Rattle.image.proofs.Turns.{Turn}
use Rattle.image.proofs.+check_record.Given as goal

abbrev pub decreases-check_record : goal.decreases-check_record
decreases-check_record l = l.levels

abbrev pub invariant-loop-p : goal.invariant-loop-p
invariant-loop-p l = Turn l.t l.s l.from l.end l.levels l.dues l.vars l.p l.left l.w l.n

abbrev pub decreases-loop-p : goal.decreases-loop-p
decreases-loop-p l = l.end - l.p
