-- `pop_bytes` meets its contract.
use Rattle.expr.specs.Runs.{pops, bytes, Laying}
use Prim.Native.Nat.{◌-◌}
use Rattle.expr.proofs.runs.pop_bytes.Given as goal

abbrev pub invariant-loop-j : goal.invariant-loop-j
invariant-loop-j l = Laying bytes (pops l.k) l.n l.end 0 l.initial.bytes l.bytes l.j l.i l.i

abbrev pub decreases-loop-j : goal.decreases-loop-j
decreases-loop-j l = l.stop - l.j
