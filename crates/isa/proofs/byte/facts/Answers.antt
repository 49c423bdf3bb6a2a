-- `isa::byte::facts` meets its contract: one test, computed over all 256 entries.
use Rattle.std.proofs.Common.{refl}
use Rattle.isa.specs.Ruled.{ruled_by, ruled}
use Rattle.isa.proofs.byte.facts.Goals as goal

pub returns : goal.returns
unfolding ruled_by
returns c = ruled _ refl tt
