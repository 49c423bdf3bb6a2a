-- last_named meets its contract.
use Prim.Native.Nat.{◌+◌, ◌≤◌}
use lib.ListN.{length}
use Rattle.tables.proofs.Search.{Search}
use Rattle.tables.proofs.last_named.Given as goal

abbrev pub invariant-loop-k : goal.invariant-loop-k
invariant-loop-k l = (l.base + 62 + l.k ≤ length l.t) × Search l.img l.t l.base l.x l.k

abbrev pub decreases-loop-k : goal.decreases-loop-k
decreases-loop-k l = l.k
