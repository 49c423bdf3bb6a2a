-- analyze_emit meets its contract.
use Rattle.lookup.specs.Results.{handed_on}
use Rattle.rules.specs.Meant.{of_stmt}
use Rattle.bounds.specs.Sizes.{vars}
use Rattle.rules.specs.Analyse.{stmt}
use Rattle.rules.specs.Read.{stmt_as}
use Rattle.sema.proofs.Lists.{emit_bad, emit_done}
use Rattle.sema.proofs.Runs.{still_bad, still_noted}
use Rattle.typing.specs.Arguments.{args_of}
use mathlib.Core.Path.{refl}
use Rattle.sema.proofs.analyze_emit.Goals as goal

pub returns : goal.returns
unfolding stmt of_stmt stmt_as vars args_of
returns c = λ R. still_noted (emit_done _ _ _ (rw (c.past-list.ensures.0, c.body.ensures.0) at c.in_ok-analyze_args.ensures.0)) ((rw (c.past-list.ensures.0, c.body.ensures.0) at c.in_ok-analyze_args.ensures.1).all _ refl)

pub returns-in_err-analyze_args : goal.returns-in_err-analyze_args
unfolding stmt of_stmt stmt_as vars args_of
returns-in_err-analyze_args c = λ R. rw (handed_on _ _ c.from_residual.ensures.1) (still_bad (emit_bad _ _ _ _ (rw (c.past-list.ensures.0, c.body.ensures.0) at c.in_err-analyze_args.ensures.0)))
