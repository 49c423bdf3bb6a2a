-- open_slot keeps a slot.
use mathlib.Core.Path.{refl}
use Rattle.stmt.proofs.open_slot.Goals as goal

pub returns : goal.returns
returns c = rw c.with.ensures (record { reserved = c.reserve-r.ensures.reserved; next = refl })
