-- position meets its contract.
use Prim.Native.Nat.{◌+◌, ◌≤◌}
use Rattle.rules.specs.Read.{field_at, fields_at}
use Rattle.rules.specs.Tables.{first_index}
use Rattle.rules.specs.Tree.{Field}
use Rattle.records.specs.Records.{places_left}
use mathlib.Core.List.{map}
use lib.ListN.{length}
use mathlib.Core.Path.{◌≡◌}
use Rattle.fields.proofs.position.Given as goal

abbrev pub invariant-loop-n : goal.invariant-loop-n
invariant-loop-n l =
    ((goal.iterator-loop-n).can_next l.n-iterator × (goal.iterator-loop-n).is_finite l.n-iterator) × ((l.n-iterator).count + length (places_left (l.n-iterator).iter) ≤ 64)
    × (first_index (λ (f : Field). f.name) 0 l.x (fields_at 64 l.img l.l) ≡ first_index (λ (f : Field). f.name) (l.n-iterator).count l.x (map (field_at l.img) (places_left (l.n-iterator).iter)))
