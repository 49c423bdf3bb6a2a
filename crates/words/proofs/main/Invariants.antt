-- `words::main` ends: each block has indices of its own.
use Prim.Native.Nat.{◌-◌}
use Rattle.words.proofs.main.Given as goal

abbrev pub decreases-loop-first : goal.decreases-loop-first
decreases-loop-first l = 18446744073709550592 - l.first
