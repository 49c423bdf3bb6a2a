-- `replay::replay` ends, and its sum has room.
use Prim.Native.Nat.{◌-◌, ◌*◌, ◌≤◌}
use Rattle.replay.proofs.replay.Given as goal

abbrev pub invariant-loop-done : goal.invariant-loop-done
invariant-loop-done g l = l.differ ≤ 4 * l.done
