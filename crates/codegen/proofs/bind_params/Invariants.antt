-- bind_params meets its contract.
use Prim.Native.Nat.{◌-◌}
use Rattle.codegen.proofs.Params.{Binding}
use Rattle.codegen.proofs.bind_params.Given as goal

abbrev pub invariant-loop-n : goal.invariant-loop-n
invariant-loop-n l = Binding l.rules l.img l.initial.scope l.f l.end l.initial.p l.initial.s l.scope l.p l.n l.s

abbrev pub decreases-loop-n : goal.decreases-loop-n
decreases-loop-n l = 512 - l.n
