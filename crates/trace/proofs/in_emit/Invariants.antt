-- `in_emit` meets its contract.
use Prim.Native.Nat.{◌-◌}
use Rattle.trace.specs.Lists.{Logs}
use Rattle.trace.proofs.in_emit.Given as goal

abbrev pub invariant-loop-p : goal.invariant-loop-p
invariant-loop-p l = Logs l.analysed.contract.img.now l.scope l.rules l.d l.at l.e l.initial.p l.st l.want l.p l.s

abbrev pub decreases-loop-p : goal.decreases-loop-p
decreases-loop-p l = l.e - l.p
