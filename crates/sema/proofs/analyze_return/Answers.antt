-- analyze_return meets its contract.
use Rattle.lookup.specs.Results.{handed_on}
use Rattle.rules.specs.Meant.{of_stmt}
use Rattle.bounds.specs.Sizes.{vars}
use Rattle.lookup.specs.Answers.{checked_of, fault_of, ty_of, typed_of}
use Rattle.rules.specs.Analyse.{stmt}
use Rattle.rules.specs.Read.{expr_at, stmt_at_lem}
use Rattle.sema.proofs.Runs.{first_bad, fit_bad, fit_ok, last_ok, still_bad, still_ok}
use Rattle.sema.proofs.Trees.{return_not, return_there}
use mathlib.Core.Path.{refl}
use Rattle.sema.proofs.analyze_return.Goals as goal
use Rattle.sema.proofs.analyze_return.Goals.{then-value-past+in_ok-b, else-value-past}

pub returns : goal.returns
unfolding stmt of_stmt vars typed_of checked_of fault_of ty_of
returns c = elim c.if-value-past.branch [
  | then-value-past+in_ok-b w ↦ rw (w.notes-is, return_there c.args.contract.now.img.now c.args.at c.body-value.ensures.0 c.past.ensures.0 (expr_at c.args.d c.args.contract.now.img.now) (stmt_at_lem c.args.d c.args.contract.now.img.now) w.if-value-past.true) (last_ok _ _ (rw c.body-value.ensures.0 at w.in_ok-b.ensures.0) ((rw c.body-value.ensures.0 at w.in_ok-b.ensures.1).all _ refl) (still_ok (fit_ok _ _ _ (rw w.b-is at c.in_ok-same_type.ensures))))
  | else-value-past w ↦ rw (w.notes-is, return_not c.args.contract.now.img.now c.args.at c.body-value.ensures.0 c.past.ensures.0 (expr_at c.args.d c.args.contract.now.img.now) (stmt_at_lem c.args.d c.args.contract.now.img.now) w.if-value-past.false) (still_ok (fit_ok _ _ _ (rw w.b-is at c.in_ok-same_type.ensures)))
]

pub returns-in_err-same_type : goal.returns-in_err-same_type
unfolding stmt of_stmt vars typed_of checked_of fault_of ty_of
returns-in_err-same_type c = rw (handed_on _ _ c.from_residual-in_err-same_type.ensures.1) (elim c.if-value-past.branch [
  | then-value-past+in_ok-b w ↦ rw (w.notes-is, return_there c.args.contract.now.img.now c.args.at c.body-value.ensures.0 c.past.ensures.0 (expr_at c.args.d c.args.contract.now.img.now) (stmt_at_lem c.args.d c.args.contract.now.img.now) w.if-value-past.true) (last_ok _ _ (rw c.body-value.ensures.0 at w.in_ok-b.ensures.0) ((rw c.body-value.ensures.0 at w.in_ok-b.ensures.1).all _ refl) (still_bad (fit_bad _ _ _ (rw w.b-is at c.in_err-same_type.ensures))))
  | else-value-past w ↦ rw (w.notes-is, return_not c.args.contract.now.img.now c.args.at c.body-value.ensures.0 c.past.ensures.0 (expr_at c.args.d c.args.contract.now.img.now) (stmt_at_lem c.args.d c.args.contract.now.img.now) w.if-value-past.false) (still_bad (fit_bad _ _ _ (rw w.b-is at c.in_err-same_type.ensures)))
])

pub returns-in_err-b : goal.returns-in_err-b
unfolding stmt of_stmt vars typed_of
returns-in_err-b c = rw (handed_on _ _ c.from_residual.ensures.1) (rw (return_there c.args.contract.now.img.now c.args.at c.body-value.ensures.0 c.past.ensures.0 (expr_at c.args.d c.args.contract.now.img.now) (stmt_at_lem c.args.d c.args.contract.now.img.now) c.if-value-past.true) (first_bad _ (rw c.body-value.ensures.0 at c.in_err-b.ensures.0)))
