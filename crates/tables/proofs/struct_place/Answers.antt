-- struct_place meets its contract.
use Rattle.tables.proofs.struct_place.Goals as goal

pub returns : goal.returns
returns c = λ img h. c.place_at.ensures img _ h.structs
