-- `lookup` meets its contract.
use Rattle.expr.specs.Scope.{scope_of, scope_in}
use Rattle.rules.specs.Emit.{find}
use Rattle.rules.specs.Bytes.{name_at}
use Prim.Native.Nat.{◌≤◌}
use mathlib.Core.Path.{◌≡◌}
use Rattle.expr.proofs.names.lookup.Given as goal

abbrev pub invariant-loop-k : goal.invariant-loop-k
invariant-loop-k l = (l.k ≤ 512) × (find (name_at l.img l.x) (scope_of l.img l.scope l.k) ≡ find (name_at l.img l.x) (scope_in l.img l.scope))

abbrev pub decreases-loop-k : goal.decreases-loop-k
decreases-loop-k l = l.k
