-- slot_of meets its contract.
use Prim.Native.Nat.{◌-◌}
use Rattle.ambiguous.proofs.Agreed.{Way}
use Rattle.ambiguous.proofs.agree.slot_of.Given as goal

abbrev pub invariant-loop : goal.invariant-loop
invariant-loop l = Way l.seen l.key (509 - l.counter) l.h
