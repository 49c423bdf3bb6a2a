-- analyze_let meets its contract.
use Rattle.lookup.specs.Results.{handed_on}
use Rattle.rules.specs.Meant.{of_stmt}
use Rattle.bounds.specs.Sizes.{vars}
use Rattle.lookup.specs.Answers.{typed_of}
use Rattle.rules.specs.Analyse.{stmt}
use Rattle.rules.specs.Read.{stmt_as}
use Rattle.sema.proofs.Runs.{first_bad, last_ok, push_step}
use mathlib.Core.Path.{refl}
use Rattle.sema.proofs.analyze_let.Goals as goal

pub push-requires : goal.push-requires
push-requires c = (c.requires, c.args.contract.now.tabled.small)

pub returns : goal.returns
unfolding stmt of_stmt stmt_as vars typed_of
returns c = λ R. last_ok _ _ (rw (c.past.ensures.0, c.body-x.ensures.0) at c.in_ok-b.ensures.0) ((rw (c.past.ensures.0, c.body-x.ensures.0) at c.in_ok-b.ensures.1).all _ refl) (push_step (rw c.body-x.ensures.0 at c.push.ensures))

pub returns-in_err-b : goal.returns-in_err-b
unfolding stmt of_stmt stmt_as vars typed_of
returns-in_err-b c = λ R. rw (handed_on _ _ c.from_residual.ensures.1) (first_bad _ (rw (c.past.ensures.0, c.body-x.ensures.0) at c.in_err-b.ensures.0))
