-- `push_bytes` meets its contract.
use Rattle.expr.specs.Runs.{pushes, bytes, Laying}
use Prim.Native.Nat.{◌+◌, ◌-◌}
use Rattle.expr.proofs.runs.push_bytes.Given as goal

abbrev pub invariant-loop-j : goal.invariant-loop-j
invariant-loop-j l = Laying bytes pushes l.n l.end 1 l.initial.bytes l.bytes l.j (l.i + 1) l.i

abbrev pub decreases-loop-j : goal.decreases-loop-j
decreases-loop-j l = l.stop - l.j
