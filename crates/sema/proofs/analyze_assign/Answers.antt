-- analyze_assign meets its contract.
use Rattle.rules.specs.Meant.{of_stmt}
use Rattle.bounds.specs.Sizes.{vars}
use Rattle.lookup.specs.Answers.{checked_of, fault_of, got_of, typed_of}
use Rattle.lookup.specs.Results.{handed_on, ok_or_some, ok_or_none, known_none, known_some, then_bad}
use Rattle.rules.specs.Analyse.{stmt}
use Rattle.rules.specs.Read.{stmt_as}
use Rattle.sema.proofs.Runs.{behind_ok, first_bad, fit_bad, fit_ok, last_ok, still_bad, still_ok}
use mathlib.Core.Path.{refl, ◌∙◌, ap}
use Rattle.sema.proofs.analyze_assign.Goals as goal

pub returns : goal.returns
unfolding stmt of_stmt stmt_as vars typed_of got_of checked_of fault_of
returns c = λ R. behind_ok _ (known_some _ (ap (got_of c.args.contract.now.img.now) (ok_or_some c.find_local.result _ c.in_ok-a.ensures.value) ∙ rw c.body-x.ensures.0 at c.find_local.ensures)) (last_ok _ _ (rw (c.past.ensures.0, c.body-x.ensures.0) at c.in_ok-b.ensures.0) ((rw (c.past.ensures.0, c.body-x.ensures.0) at c.in_ok-b.ensures.1).all _ refl) (still_ok (fit_ok _ _ _ c.in_ok-same_type.ensures)))

pub returns-in_err-same_type : goal.returns-in_err-same_type
unfolding stmt of_stmt stmt_as vars typed_of got_of checked_of fault_of
returns-in_err-same_type c = λ R. rw (handed_on _ _ c.from_residual-in_err-same_type.ensures.1) (behind_ok _ (known_some _ (ap (got_of c.args.contract.now.img.now) (ok_or_some c.find_local.result _ c.in_ok-a.ensures.value) ∙ rw c.body-x.ensures.0 at c.find_local.ensures)) (last_ok _ _ (rw (c.past.ensures.0, c.body-x.ensures.0) at c.in_ok-b.ensures.0) ((rw (c.past.ensures.0, c.body-x.ensures.0) at c.in_ok-b.ensures.1).all _ refl) (still_bad (fit_bad _ _ _ c.in_err-same_type.ensures))))

pub returns-in_err-b : goal.returns-in_err-b
unfolding stmt of_stmt stmt_as vars typed_of got_of
returns-in_err-b c = λ R. rw (handed_on _ _ c.from_residual-in_err-b.ensures.1) (behind_ok _ (known_some _ (ap (got_of c.args.contract.now.img.now) (ok_or_some c.find_local.result _ c.in_ok-a.ensures.value) ∙ rw c.body-x.ensures.0 at c.find_local.ensures)) (first_bad _ (rw (c.past.ensures.0, c.body-x.ensures.0) at c.in_err-b.ensures.0)))

pub returns-in_err-a : goal.returns-in_err-a
unfolding stmt of_stmt stmt_as vars fault_of got_of
returns-in_err-a c = λ R.
    let e = ok_or_none c.find_local.result _ c.in_err-a.ensures.value in
    rw (handed_on _ _ c.from_residual.ensures.1, e.1) (still_bad (rw c.body-x.ensures.0 (then_bad _ (known_none _ (ap (got_of c.args.contract.now.img.now) e.0 ∙ rw c.body-x.ensures.0 at c.find_local.ensures)))))
