-- init_fits meets its contract.
use mathlib.Core.Path.{◌∙◌, ap}
use Rattle.lookup.proofs.Fits.{init_missing, init_there}
use Rattle.lookup.specs.Answers.{checked_of, fault_of, got_of}
use Rattle.lookup.specs.Results.{ok_or_some, ok_or_none, handed_on, unless_bad, unless_ok}
use Rattle.lookup.proofs.init_fits.Goals as goal

pub returns-in_err-due : goal.returns-in_err-due
unfolding checked_of fault_of got_of
returns-in_err-due c =
    let e = ok_or_none c.field_type.result _ c.in_err-due.ensures.value in
    rw (handed_on _ _ c.from_residual.ensures.1, e.1, c.body-x.ensures.0) (init_missing _ _ _ (ap (got_of c.args.img.now) e.0 ∙ rw c.body-x.ensures.0 at c.field_type.ensures))

pub returns-then-init_clashing : goal.returns-then-init_clashing
unfolding checked_of fault_of got_of
returns-then-init_clashing c =
    let e = ok_or_some c.field_type.result _ c.in_ok-due.ensures.value in
    rw c.body-x.ensures.0 (init_there _ _ _ (ap (got_of c.args.img.now) e ∙ rw c.body-x.ensures.0 at c.field_type.ensures) (unless_bad _ _ c.init_clashing.ensures c.if-init_clashing.true))

pub returns : goal.returns
unfolding checked_of got_of
returns c =
    let e = ok_or_some c.field_type.result _ c.in_ok-due.ensures.value in
    init_there _ _ _ (ap (got_of c.args.img.now) e ∙ rw c.body-x.ensures.0 at c.field_type.ensures) (unless_ok _ _ c.init_clashing.ensures c.if-init_clashing.false)
