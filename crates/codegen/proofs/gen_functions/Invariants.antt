-- gen_functions meets its contract.
use Rattle.emit.specs.Sinks.{sinks}
use Rattle.codegen.proofs.Firsts.{Placing}
use Rattle.codegen.proofs.gen_functions.Given as goal

abbrev pub invariant-loop-k : goal.invariant-loop-k
invariant-loop-k l = Placing l.rules l.analysed.contract.img.now (sinks l.initial.code l.initial.bytes) l.initial.scope l.initial.firsts l.initial.s (sinks l.code l.bytes) l.scope l.firsts l.k l.s
