-- `push_numbers` meets its contract.
use Rattle.expr.specs.Runs.{pushes, numbers, Laying}
use Prim.Native.Nat.{◌+◌}
use Rattle.expr.proofs.runs.push_numbers.Given as goal

abbrev pub invariant-loop-j : goal.invariant-loop-j
invariant-loop-j l = Laying numbers pushes l.n l.end 1 l.initial.code l.code l.j (l.i + 1) l.i
