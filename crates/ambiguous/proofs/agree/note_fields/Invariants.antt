-- note_fields meets its contract.
use Prim.Native.Nat.{◌+◌, ◌≤◌}
use Rattle.records.specs.Records.{places_left}
use Rattle.ambiguous.proofs.Agreed.{Told}
use Rattle.ambiguous.specs.Slots.{Extends}
use lib.ListN.{length}
use mathlib.Core.Path.{◌≡◌}
use Rattle.ambiguous.proofs.agree.note_fields.Given as goal

abbrev pub invariant-loop-n : goal.invariant-loop-n
invariant-loop-n l =
    ((goal.iterator-loop-n).can_next l.n-iterator × (goal.iterator-loop-n).is_finite l.n-iterator)
    × (length l.seen ≡ length l.initial.seen)
    × ((l.n-iterator).count + length (places_left (l.n-iterator).iter) ≤ 64)
    × Extends l.initial.seen l.seen
    × Told l.img l.l l.seen (l.n-iterator).count (places_left (l.n-iterator).iter)
