-- all_agree meets its contract.
use Prim.Native.Nat.{ℕ, ◌<◌}
use Rattle.ambiguous.specs.Slots.{Held}
use Rattle.rules.specs.Read.{second}
use Rattle.tables.specs.Listed.{structs_in}
use lib.ListN.{get_or}
use Rattle.ambiguous.proofs.agree.all_agree.Given as goal

abbrev pub invariant-loop-i : goal.invariant-loop-i
invariant-loop-i l = (j : ℕ) → j < l.i → Held l.contract.img.now l.seen (second l.contract.img.now (get_or (structs_in l.contract.img.now) j 0))
