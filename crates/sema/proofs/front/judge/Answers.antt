-- `front::judge` meets its contract: what was refused is handed on, else 30 is asked.
use mathlib.Core.Path.{refl}
use Rattle.lookup.specs.Results.{handed_on}
use Rattle.sema.proofs.Fronts.{kept, looked}
use Rattle.sema.proofs.front.judge.Goals as goal

pub analysis-requires : goal.analysis-requires
analysis-requires c = c.requires

pub returns-in_err-analysis : goal.returns-in_err-analysis
returns-in_err-analysis c = rw (handed_on _ _ c.from_residual.ensures.1) (kept _ _ _ _ c.in_err-analysis.ensures)

pub ambiguity-requires : goal.ambiguity-requires
ambiguity-requires c = (c.in_ok-analysis.ensures.ready refl).0

pub returns : goal.returns
returns c = looked _ _ _ c.in_ok-analysis.ensures c.ambiguity.ensures
