-- run_expr meets its contract.
use Rattle.lookup.specs.Results.{handed_on}
use Rattle.lookup.specs.Answers.{typed_of}
use Rattle.sema.proofs.Runs.{first_bad, last_ok, still_ok}
use Rattle.sema.specs.Steps.{only}
use mathlib.Core.Path.{refl}
use Rattle.sema.proofs.run_expr.Goals as goal

pub returns : goal.returns
unfolding only typed_of
returns c = last_ok _ _ (c.in_ok-analyze_expr.ensures.0) ((c.in_ok-analyze_expr.ensures.1).all _ refl) (still_ok refl)

pub returns-in_err-analyze_expr : goal.returns-in_err-analyze_expr
unfolding only typed_of
returns-in_err-analyze_expr c = rw (handed_on _ _ c.from_residual.ensures.1) (first_bad _ (c.in_err-analyze_expr.ensures.0))
