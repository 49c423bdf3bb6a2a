-- `push_all` meets its contract.
use Rattle.emit.specs.Sinks.{sinks}
use Rattle.expr.specs.Values.{regs_in, argued}
use Rattle.expr.proofs.Loops.{Saying}
use Prim.Native.Nat.{◌-◌}
use Rattle.expr.proofs.steps.push_all.Given as goal

abbrev pub invariant-loop-i : goal.invariant-loop-i
invariant-loop-i l = Saying l.st (sinks l.initial.code l.initial.bytes) (argued (regs_in l.vals 0 l.n)) l.k (sinks l.code l.bytes) (argued (regs_in l.vals l.i (l.n - l.i)))
