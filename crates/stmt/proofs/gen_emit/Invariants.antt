-- gen_emit does the steps of its statement.
use Rattle.emit.specs.Sinks.{sinks}
use Prim.Native.Nat.{◌-◌}
use Rattle.rules.specs.Read.{expr_at}
use Rattle.expr.specs.Scope.{scope_in}
use Rattle.stmt.proofs.Lists.{Logs}
use Rattle.stmt.proofs.gen_emit.Given as goal

abbrev pub invariant-loop-p : goal.invariant-loop-p
invariant-loop-p l = Logs l.rules l.at (expr_at l.d l.analysed.contract.img.now) (scope_in l.analysed.contract.img.now l.scope) l.analysed.contract.img.now (sinks l.initial.code l.initial.bytes) l.end l.initial.p l.initial.s (sinks l.code l.bytes) l.p l.s

abbrev pub decreases-loop-p : goal.decreases-loop-p
decreases-loop-p l = l.end - l.p
