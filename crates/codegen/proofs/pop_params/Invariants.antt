-- pop_params meets its contract.
use Rattle.emit.specs.Sinks.{sinks}
use Rattle.codegen.proofs.Params.{Popping}
use Rattle.codegen.proofs.pop_params.Given as goal

abbrev pub invariant-loop-k : goal.invariant-loop-k
invariant-loop-k l = Popping l.scope (sinks l.initial.code l.initial.bytes) l.initial.s (sinks l.code l.bytes) l.k l.s
