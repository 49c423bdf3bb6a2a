-- analyze_write meets its contract.
use Rattle.lookup.specs.Results.{handed_on}
use Rattle.rules.specs.Meant.{of_stmt}
use Rattle.bounds.specs.Sizes.{vars}
use Rattle.lookup.specs.Answers.{typed_of}
use Rattle.rules.specs.Analyse.{stmt}
use Rattle.rules.specs.Read.{stmt_as}
use Rattle.sema.proofs.Runs.{first_bad, first_ok}
use Rattle.sema.specs.Steps.{only}
use mathlib.Core.Path.{refl}
use Rattle.sema.proofs.analyze_write.Goals as goal

pub returns : goal.returns
unfolding stmt of_stmt stmt_as vars typed_of only
returns c = λ R. first_ok _ _ (rw (c.past-key.ensures.0, c.body.ensures.0) at c.in_ok-analyze_expr.ensures.0) ((rw (c.past-key.ensures.0, c.body.ensures.0) at c.in_ok-analyze_expr.ensures.1).all _ refl) (rw (c.past.ensures.0, c.past-key.ensures.0, c.body.ensures.0) at c.run_expr.ensures)

pub returns-in_err-analyze_expr : goal.returns-in_err-analyze_expr
unfolding stmt of_stmt stmt_as vars typed_of
returns-in_err-analyze_expr c = λ R. rw (handed_on _ _ c.from_residual.ensures.1) (first_bad _ (rw (c.past-key.ensures.0, c.body.ensures.0) at c.in_err-analyze_expr.ensures.0))
