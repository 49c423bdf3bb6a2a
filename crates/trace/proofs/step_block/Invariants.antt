-- `step_block` meets its contract.
use Prim.Native.Nat.{◌-◌}
use Rattle.trace.specs.Lists.{Rest}
use Rattle.trace.proofs.step_block.Given as goal

abbrev pub invariant-loop-p : goal.invariant-loop-p
invariant-loop-p l = Rest l.analysed.contract.img.now l.analysed.contract.tables.now l.analysed.notes.now l.initial.scope l.rules l.d l.e l.initial.p l.initial.s l.want l.scope l.p l.s

abbrev pub decreases-loop-p : goal.decreases-loop-p
decreases-loop-p l = l.e - l.p
