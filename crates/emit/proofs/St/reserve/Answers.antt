-- `reserve` meets its contract.
use mathlib.Core.Path.{refl}
use Rattle.emit.proofs.St.reserve.Goals as goal

pub returns : goal.returns
returns c = let n = c.sum.ensures in
    record { reserved = record { err = refl; place = refl; grows = n.grows; count = n.exact; low = n.low }; next = refl; reg = refl }
