-- find_local meets its contract.
use mathlib.Core.Path.{◌≡◌}
use Prim.Native.Nat.{◌≤◌}
use Rattle.rules.specs.Bytes.{name_at}
use Rattle.rules.specs.Types.{find}
use Rattle.lookup.specs.Answers.{env_of}
use Rattle.lookup.proofs.find_local.Given as goal

abbrev pub invariant-loop-k : goal.invariant-loop-k
invariant-loop-k l = (l.k ≤ l.top) × find (name_at l.img l.x) (env_of l.img l.env l.top) ≡ find (name_at l.img l.x) (env_of l.img l.env l.k)

abbrev pub decreases-loop-k : goal.decreases-loop-k
decreases-loop-k l = l.k
