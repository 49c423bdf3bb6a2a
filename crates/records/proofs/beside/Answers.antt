-- beside meets its contract.
use Rattle.records.specs.Cells.{beside}
use Rattle.records.proofs.beside.Goals as goal

pub returns : goal.returns
returns c = beside _ _ _ _ c.requires.0 c.within.ensures.0 c.within.ensures.1.0 c.within.ensures.1.1
