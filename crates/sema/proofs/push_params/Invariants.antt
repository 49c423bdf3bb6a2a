-- push_params meets its contract.
use Prim.Native.Nat.{◌*◌, ◌+◌, ◌≤◌, ℕ}
use Rattle.rules.specs.Read.{places_in}
use Rattle.records.specs.Records.{places_left}
use Rattle.sema.specs.Steps.{Bound}
use lib.ListN.{length}
use mathlib.Core.List.{List}
use mathlib.Core.Path.{◌≡◌}
use Rattle.sema.proofs.push_params.Given as goal

abbrev pub invariant-loop-p : goal.invariant-loop-p
invariant-loop-p l =
    ((goal.iterator-loop-p).can_next l.p-iterator × (goal.iterator-loop-p).is_finite l.p-iterator)
    × (l.top + 2 * length (places_left l.p-iterator) ≤ length l.env)
    × (length l.env ≡ length l.initial.env)
    × ((e2 : List ℕ) (r : ℕ) → Bound l.img l.env e2 l.top (places_left l.p-iterator) r → Bound l.img l.initial.env e2 0 (places_in 512 l.img l.at) r)
