-- `link::link_bytes` meets its contract: after i turns the first i words are linked.
use Prim.Native.Nat.{◌-◌}
use Rattle.link.specs.Words.{Linking}
use Rattle.link.proofs.link_bytes.Given as goal

abbrev pub invariant-loop-i : goal.invariant-loop-i
invariant-loop-i l = Linking l.firsts l.initial.out l.n l.out l.i

abbrev pub decreases-loop-i : goal.decreases-loop-i
decreases-loop-i l = l.n - l.i
