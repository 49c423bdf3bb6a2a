-- `pop_numbers` meets its contract.
use Rattle.expr.specs.Runs.{pops, numbers, Laying}
use Rattle.expr.proofs.runs.pop_numbers.Given as goal

abbrev pub invariant-loop-j : goal.invariant-loop-j
invariant-loop-j l = Laying numbers (pops l.k) l.n l.end 0 l.initial.code l.code l.j l.i l.i
