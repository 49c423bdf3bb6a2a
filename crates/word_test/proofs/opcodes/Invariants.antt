-- `word_test::opcodes` ends, and its sums fit.
use Prim.Native.Nat.{◌-◌, ◌≤◌}
use Rattle.word_test.proofs.opcodes.Given as goal

abbrev pub invariant-loop-n : goal.invariant-loop-n
invariant-loop-n l = (l.k ≤ l.n) × (l.n ≤ 256)

abbrev pub decreases-loop-n : goal.decreases-loop-n
decreases-loop-n l = 256 - l.n
