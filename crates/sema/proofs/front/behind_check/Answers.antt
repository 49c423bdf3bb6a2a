-- `front::behind_check` meets its contract.
use native.Mathlib.Omega.{arith}
use Rattle.sema.proofs.Fronts.{judged_by}
use Rattle.sema.proofs.Functions.{small}
use Rattle.sema.proofs.front.behind_check.Goals as goal

pub fill_tables-requires : goal.fill_tables-requires
fill_tables-requires c = small _ c.requires.0

pub analyse_checked-requires : goal.analyse_checked-requires
analyse_checked-requires c = (c.requires.0, omega arith)

pub returns : goal.returns
returns c = judged_by _ _ _ _ c.requires.0 c.requires.1 c.fill_tables.ensures c.analyse_checked.result _ c.map_err.ensures.cases c.analyse_checked.ensures.0 c.analyse_checked.ensures.1
