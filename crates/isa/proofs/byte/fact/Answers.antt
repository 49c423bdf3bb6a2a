-- `isa::byte::fact` meets its contract: each part is its bits of the entry.
use Rattle.std.proofs.Common.{refl}
use Rattle.isa.specs.Facts.{fact_in}
use Rattle.isa.proofs.byte.fact.Goals as goal

pub returns : goal.returns
unfolding fact_in
returns c = rw c.height.ensures refl
