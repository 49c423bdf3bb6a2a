-- `put` meets its contract.
use Rattle.emit.specs.Ran.{raw}
use Rattle.emit.specs.Refines.{adds}
use Rattle.emit.proofs.put.Goals as goal

pub returns : goal.returns
returns c = let k = c.reserve.ensures.reserved in record { ran = λ C o e. adds (raw C) o _ e k.err k.place k.grows k.low (λ z. (k.count z, c.patch.ensures)); count = k.count; next = c.reserve.ensures.next; reg = c.reserve.ensures.reg }
