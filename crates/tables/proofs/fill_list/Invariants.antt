-- fill_list meets its contract.
use Prim.Native.Nat.{◌+◌, ◌≤◌}
use lib.ListN.{length}
use Rattle.rules.specs.Read.{places_in}
use Rattle.records.specs.Records.{places_left}
use Rattle.tables.proofs.Fill.{Filled}
use Rattle.tables.proofs.fill_list.Given as goal

abbrev pub invariant-loop-p : goal.invariant-loop-p
invariant-loop-p l =
    ((goal.iterator-loop-p).can_next l.p-iterator × (goal.iterator-loop-p).is_finite l.p-iterator)
    × (l.n + length (places_left l.p-iterator) ≤ l.most)
    × Filled l.img l.initial.t l.t l.base (places_in l.most l.img l.l) (places_left l.p-iterator) l.n
