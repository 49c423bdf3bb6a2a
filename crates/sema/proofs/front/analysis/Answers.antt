-- `front::analysis` meets its contract: the fault of the check, or what follows.
use mathlib.Core.Path.{ap, sym}
use Rattle.rules.specs.Build.{passed}
use Rattle.sema.proofs.Fronts.{faulted}
use Rattle.sema.proofs.front.analysis.Goals as goal

pub behind_check-requires : goal.behind_check-requires
unfolding passed
behind_check-requires c = (ap passed (sym c.in-Ok.ensures), c.requires)

pub returns-in-Err : goal.returns-in-Err
returns-in-Err c = faulted _ _ _ (sym c.in-Err.ensures)
