-- The cycle {analyze_access, analyze_args, analyze_binary, analyze_call, analyze_expr, analyze_init, analyze_inits, analyze_literal, analyze_mapping}: the needs of each member are in a file of its own.
use Rattle.lookup.specs.Answers.{env_of, typed_of, due_of, misfit_of, ty_of, checked_of, fault_of}
use Rattle.lookup.specs.Results.{handed_on, then_bad, then_ok, known_none, known_some}
use Rattle.rules.specs.Analyse.{expr, inits, struct_named}
use Rattle.rules.specs.Read.{contract_at, expr_as, expr_at, kAccess, kBinary, kCall, kIdent, kInt, kLiteral, kMapping, kOther, kStorage, kind_of, struct_at}
use Rattle.typing.proofs.Wrote.{access_written, args_all, args_written, inits_all, inits_written}
use Rattle.notes.specs.Wrote.{refused, was, wrote, in_turn, none_written}
use mathlib.Core.Path.{◌∙◌, ap, refl, sym}
use native.Mathlib.Omega.{arith}
use Prim.Native.Nat.{ℕ}
use Rattle.rules.specs.Bytes.{after, inside, pick, name_at}
use Rattle.rules.specs.Refusal.{ok}
use Rattle.typing.proofs.Lists.{args_done, args_next, args_refused, args_start, drop_more, nth_drop, call_done, inits_bad, inits_next}
use Rattle.rules.specs.Meant.{of_expr}
use Rattle.typing.proofs.Trees.{exprs_none, at_kind, at_zero, kind_other, inits_none}
use Rattle.bounds.specs.Lists.{exprs_places, inits_places}
use Rattle.records.specs.Places.{places_few}
use Rattle.typing.specs.Arguments.{args_of, one_init}
use lib.ListN.{drop, length}
use Rattle.rules.specs.Tables.{mapped}
use Rattle.rules.specs.Types.{Typ}
use Rattle.tables.specs.Carried.{struct_is}
use Rattle.tables.specs.Listed.{place_of}
use Rattle.typing.proofs.+analyze_expr.Goals as goal

pub analyze_access-returns : goal.analyze_access-returns
unfolding typed_of expr expr_as
analyze_access-returns t c = (then_ok _ (rw c.body-base.ensures.0 at c.in_ok-b.ensures.0) (rw (c.past-x.ensures.0, c.body-base.ensures.0) at c.field_of.ensures.types), access_written (contract_at c.args.contract.now.img.now) c.args.at _ _ (env_of c.args.contract.now.img.now c.args.env.now c.args.top) _ _ (rw c.body-base.ensures.0 at c.in_ok-b.ensures.0) (rw c.body-base.ensures.0 at (was (contract_at c.args.contract.now.img.now) _ c.in_ok-b.ensures.1 refl)) (rw (c.past-x.ensures.0, c.body-base.ensures.0) at c.field_of.ensures.notes) (rw (c.past-x.ensures.0, c.body-base.ensures.0) at c.field_of.ensures.types))

pub analyze_access-returns-in_err-b : goal.analyze_access-returns-in_err-b
unfolding typed_of expr expr_as
analyze_access-returns-in_err-b t c = rw (handed_on _ _ c.from_residual.ensures.1) ((then_bad _ (rw c.body-base.ensures.0 at c.in_err-b.ensures.0)), refused (contract_at c.args.contract.now.img.now) _ _ refl)

pub analyze_args-loop-p-init : goal.analyze_args-loop-p-init
unfolding misfit_of
analyze_args-loop-p-init t c =
    let few = places_few c.args.contract.now.img.now c.args.left (inside c.args.contract.now.img.now c.args.l) (after c.args.contract.now.img.now c.args.l) in
    rw (c.into_iter-p-iterator.ensures.into_iter_gives, c.list-p-items.ensures, ← exprs_places c.args.left (expr_at c.args.d c.args.contract.now.img.now) c.args.contract.now.img.now (inside c.args.contract.now.img.now c.args.l) (after c.args.contract.now.img.now c.args.l)) ((tt, tt), omega (arith, few), refl, refl, args_start (contract_at c.args.contract.now.img.now) c.args.d c.args.contract.now.img.now (env_of c.args.contract.now.img.now c.args.env.now c.args.top) (due_of c.args.contract.now.img.now c.args.params) _)

pub analyze_args-loop-p-preserved : goal.analyze_args-loop-p-preserved
unfolding typed_of
analyze_args-loop-p-preserved t c = (
  (tt, tt),
  omega (arith, c.loop-p.invariant.1, ap length c.in-Some.ensures.steps),
  c.loop-p.invariant.2 ∙ args_written (contract_at c.args.contract.now.img.now) c.args.d c.args.contract.now.img.now (env_of c.args.contract.now.img.now c.args.env.now c.args.top) _ c.in-Some.ensures.steps (was (contract_at c.args.contract.now.img.now) _ c.in_ok-b.ensures.1 refl),
  c.next_due-due.ensures ∙ ap (drop 1) c.loop-p.invariant.3 ∙ drop_more c.loop-p.n (due_of c.args.contract.now.img.now c.args.params),
  c.loop-p.invariant.4 ∙ args_next (contract_at c.args.contract.now.img.now) c.args.d c.args.contract.now.img.now (env_of c.args.contract.now.img.now c.args.env.now c.args.top) (due_of c.args.contract.now.img.now c.args.params) c.loop-p.n (misfit_of c.loop-p.misfit) c.in-Some.ensures.steps _ c.in_ok-b.ensures.0 (rw (c.loop-p.invariant.3, nth_drop c.loop-p.n (due_of c.args.contract.now.img.now c.args.params)) at c.note-misfit.ensures),
)

pub analyze_args-returns-in_err-b : goal.analyze_args-returns-in_err-b
unfolding args_of typed_of
analyze_args-returns-in_err-b t c = rw (handed_on _ _ c.from_residual.ensures.1) (args_refused (contract_at c.args.contract.now.img.now) c.args.d c.args.contract.now.img.now (env_of c.args.contract.now.img.now c.args.env.now c.args.top) (due_of c.args.contract.now.img.now c.args.params) c.loop-p.n (misfit_of c.loop-p.misfit) c.in-Some.ensures.steps c.in_err-b.ensures.0 ∙ sym c.loop-p.invariant.4, refused (contract_at c.args.contract.now.img.now) _ _ refl)

pub analyze_args-returns : goal.analyze_args-returns
unfolding args_of
analyze_args-returns t c = (args_done (contract_at c.args.contract.now.img.now) c.args.d c.args.contract.now.img.now (env_of c.args.contract.now.img.now c.args.env.now c.args.top) (due_of c.args.contract.now.img.now c.args.params) c.loop-p.n (misfit_of c.loop-p.misfit) _ (exprs_none (expr_at c.args.d c.args.contract.now.img.now) c.in-None.ensures.steps.0) ∙ sym c.loop-p.invariant.4, wrote (contract_at c.args.contract.now.img.now) _ (sym (c.loop-p.invariant.2 ∙ args_all (contract_at c.args.contract.now.img.now) _ (env_of c.args.contract.now.img.now c.args.env.now c.args.top) _ (exprs_none (expr_at c.args.d c.args.contract.now.img.now) c.in-None.ensures.steps.0))))

pub analyze_binary-returns : goal.analyze_binary-returns
unfolding typed_of expr expr_as of_expr
analyze_binary-returns t c = (then_ok _ (rw c.body-left.ensures.0 at c.in_ok-a.ensures.0) (then_ok _ (rw (c.past-right.ensures.0, c.past-op.ensures.0, c.body-left.ensures.0) at c.in_ok-b.ensures.0) c.both.ensures), wrote (contract_at c.args.contract.now.img.now) _ (in_turn (contract_at c.args.contract.now.img.now) _ _ _ (rw c.body-left.ensures.0 at (was (contract_at c.args.contract.now.img.now) _ c.in_ok-a.ensures.1 refl)) (rw (c.past-right.ensures.0, c.past-op.ensures.0, c.body-left.ensures.0) at (was (contract_at c.args.contract.now.img.now) _ c.in_ok-b.ensures.1 refl))))

pub analyze_binary-returns-in_err-b : goal.analyze_binary-returns-in_err-b
unfolding typed_of expr expr_as
analyze_binary-returns-in_err-b t c = rw (handed_on _ _ c.from_residual-in_err-b.ensures.1) ((then_ok _ (rw c.body-left.ensures.0 at c.in_ok-a.ensures.0) (then_bad _ (rw (c.past-right.ensures.0, c.past-op.ensures.0, c.body-left.ensures.0) at c.in_err-b.ensures.0))), refused (contract_at c.args.contract.now.img.now) _ _ refl)

pub analyze_binary-returns-in_err-a : goal.analyze_binary-returns-in_err-a
unfolding typed_of expr expr_as
analyze_binary-returns-in_err-a t c = rw (handed_on _ _ c.from_residual.ensures.1) ((then_bad _ (rw c.body-left.ensures.0 at c.in_err-a.ensures.0)), refused (contract_at c.args.contract.now.img.now) _ _ refl)

pub analyze_call-returns : goal.analyze_call-returns
unfolding expr expr_as args_of of_expr
analyze_call-returns t c = (call_done _ _ _ _ (then_ok _ (rw (c.dues-params.ensures, c.callee_named-c.ensures, c.past-list.ensures.0, c.body-x.ensures.0) at c.in_ok-n.ensures.0) (rw (c.callee_named-c.ensures, c.body-x.ensures.0) at c.apply_to.ensures)), wrote (contract_at c.args.contract.now.img.now) _ (rw (c.past-list.ensures.0, c.body-x.ensures.0) at (was (contract_at c.args.contract.now.img.now) _ c.in_ok-n.ensures.1 refl)))

pub analyze_call-returns-in_err-n : goal.analyze_call-returns-in_err-n
unfolding expr expr_as args_of typed_of
analyze_call-returns-in_err-n t c = rw (handed_on _ _ c.from_residual.ensures.1) (call_done _ _ _ _ (then_bad _ (rw (c.dues-params.ensures, c.callee_named-c.ensures, c.past-list.ensures.0, c.body-x.ensures.0) at c.in_err-n.ensures.0)), refused (contract_at c.args.contract.now.img.now) _ _ refl)

pub analyze_expr-returns-then-d-eq0 : goal.analyze_expr-returns-then-d-eq0
unfolding typed_of ty_of expr of_expr
analyze_expr-returns-then-d-eq0 t c = rw (at_zero c.args.d c.args.contract.now.img.now c.args.at c.if-d-eq0.true) (refl, none_written (contract_at c.args.contract.now.img.now) _ _)

pub analyze_expr-returns-in-64 : goal.analyze_expr-returns-in-64
unfolding typed_of ty_of expr expr_as kind_of pick of_expr
analyze_expr-returns-in-64 t c = rw (at_kind c.args.d c.args.contract.now.img.now c.args.at c.kind-k.result kInt c.if-d-eq0.false c.kind-k.ensures.0 (ap kind_of c.in-64.is)) (refl, none_written (contract_at c.args.contract.now.img.now) _ _)

pub analyze_expr-returns-in-65 : goal.analyze_expr-returns-in-65
unfolding expr_as kind_of pick of_expr
analyze_expr-returns-in-65 t c = rw (at_kind c.args.d c.args.contract.now.img.now c.args.at c.kind-k.result kIdent c.if-d-eq0.false c.kind-k.ensures.0 (ap kind_of c.in-65.is)) (c.analyze_ident.ensures, none_written (contract_at c.args.contract.now.img.now) _ _)

pub analyze_expr-returns-in-66 : goal.analyze_expr-returns-in-66
unfolding typed_of ty_of expr expr_as kind_of pick of_expr
analyze_expr-returns-in-66 t c = rw (at_kind c.args.d c.args.contract.now.img.now c.args.at c.kind-k.result kStorage c.if-d-eq0.false c.kind-k.ensures.0 (ap kind_of c.in-66.is)) (refl, none_written (contract_at c.args.contract.now.img.now) _ _)

pub analyze_expr-returns-in-67 : goal.analyze_expr-returns-in-67
unfolding kind_of pick
analyze_expr-returns-in-67 t c = rw (at_kind c.args.d c.args.contract.now.img.now c.args.at c.kind-k.result kMapping c.if-d-eq0.false c.kind-k.ensures.0 (ap kind_of c.in-67.is)) c.analyze_mapping.ensures

pub analyze_expr-returns-in-68 : goal.analyze_expr-returns-in-68
unfolding kind_of pick
analyze_expr-returns-in-68 t c = rw (at_kind c.args.d c.args.contract.now.img.now c.args.at c.kind-k.result kAccess c.if-d-eq0.false c.kind-k.ensures.0 (ap kind_of c.in-68.is)) c.analyze_access.ensures

pub analyze_expr-returns-in-69 : goal.analyze_expr-returns-in-69
unfolding kind_of pick
analyze_expr-returns-in-69 t c = rw (at_kind c.args.d c.args.contract.now.img.now c.args.at c.kind-k.result kLiteral c.if-d-eq0.false c.kind-k.ensures.0 (ap kind_of c.in-69.is)) c.analyze_literal.ensures

pub analyze_expr-returns-in-70 : goal.analyze_expr-returns-in-70
unfolding kind_of pick
analyze_expr-returns-in-70 t c = rw (at_kind c.args.d c.args.contract.now.img.now c.args.at c.kind-k.result kBinary c.if-d-eq0.false c.kind-k.ensures.0 (ap kind_of c.in-70.is)) c.analyze_binary.ensures

pub analyze_expr-returns-in-71 : goal.analyze_expr-returns-in-71
unfolding kind_of pick
analyze_expr-returns-in-71 t c = rw (at_kind c.args.d c.args.contract.now.img.now c.args.at c.kind-k.result kCall c.if-d-eq0.false c.kind-k.ensures.0 (ap kind_of c.in-71.is)) c.analyze_call.ensures

pub analyze_expr-returns-in_default : goal.analyze_expr-returns-in_default
unfolding typed_of ty_of expr expr_as of_expr
analyze_expr-returns-in_default t c = rw (at_kind c.args.d c.args.contract.now.img.now c.args.at c.kind-k.result kOther c.if-d-eq0.false c.kind-k.ensures.0 (kind_other c.kind-k.result (omega arith) (omega arith) (omega arith) (omega arith) (omega arith) (omega arith) (omega arith) (omega arith))) (refl, none_written (contract_at c.args.contract.now.img.now) _ _)

pub analyze_init-returns : goal.analyze_init-returns
unfolding typed_of one_init
analyze_init-returns t c = (then_ok _ (rw (c.past-value.ensures.0, c.body.ensures.0) at c.in_ok-b.ensures.0) c.init_fits.ensures, wrote (contract_at c.args.contract.now.img.now) _ (rw (c.past-value.ensures.0, c.body.ensures.0) at (was (contract_at c.args.contract.now.img.now) _ c.in_ok-b.ensures.1 refl)))

pub analyze_init-returns-in_err-b : goal.analyze_init-returns-in_err-b
unfolding typed_of checked_of one_init
analyze_init-returns-in_err-b t c = rw (handed_on _ _ c.from_residual.ensures.1) (then_bad _ (rw (c.past-value.ensures.0, c.body.ensures.0) at c.in_err-b.ensures.0), refused (contract_at c.args.contract.now.img.now) _ _ refl)

pub analyze_inits-loop-p-init : goal.analyze_inits-loop-p-init
analyze_inits-loop-p-init t c = rw (c.into_iter-p-iterator.ensures.into_iter_gives, c.list-p-items.ensures, ← inits_places 64 (expr_at c.args.d c.args.contract.now.img.now) c.args.contract.now.img.now (inside c.args.contract.now.img.now c.args.l) (after c.args.contract.now.img.now c.args.l)) ((tt, tt), refl, refl)

pub analyze_inits-loop-p-preserved : goal.analyze_inits-loop-p-preserved
unfolding checked_of
analyze_inits-loop-p-preserved t c = (
  (tt, tt),
  c.loop-p.invariant.1 ∙ inits_written (contract_at c.args.contract.now.img.now) c.args.d c.args.contract.now.img.now (env_of c.args.contract.now.img.now c.args.env.now c.args.top) _ c.in-Some.ensures.steps (was (contract_at c.args.contract.now.img.now) _ c.in_ok-analyze_init.ensures.1 refl),
  c.loop-p.invariant.2 ∙ inits_next (contract_at c.args.contract.now.img.now) c.args.d c.args.contract.now.img.now (env_of c.args.contract.now.img.now c.args.env.now c.args.top) (struct_at c.args.contract.now.img.now c.args.s) c.in-Some.ensures.steps c.in_ok-analyze_init.ensures.0,
)

pub analyze_inits-returns-in_err-analyze_init : goal.analyze_inits-returns-in_err-analyze_init
unfolding checked_of
analyze_inits-returns-in_err-analyze_init t c = rw (handed_on _ _ c.from_residual.ensures.1) (inits_bad (contract_at c.args.contract.now.img.now) c.args.d c.args.contract.now.img.now (env_of c.args.contract.now.img.now c.args.env.now c.args.top) (struct_at c.args.contract.now.img.now c.args.s) c.in-Some.ensures.steps c.in_err-analyze_init.ensures.0 ∙ sym c.loop-p.invariant.2, refused (contract_at c.args.contract.now.img.now) _ _ refl)

pub analyze_inits-returns : goal.analyze_inits-returns
unfolding checked_of inits
analyze_inits-returns t c = (sym (c.loop-p.invariant.2 ∙ rw (inits_none (expr_at c.args.d c.args.contract.now.img.now) c.args.contract.now.img.now c.in-None.ensures.steps.0)), wrote (contract_at c.args.contract.now.img.now) _ (sym (c.loop-p.invariant.1 ∙ inits_all (contract_at c.args.contract.now.img.now) _ (env_of c.args.contract.now.img.now c.args.env.now c.args.top) _ (inits_none (expr_at c.args.d c.args.contract.now.img.now) c.args.contract.now.img.now c.in-None.ensures.steps.0))))

pub analyze_literal-returns : goal.analyze_literal-returns
unfolding typed_of ty_of expr expr_as place_of mapped struct_named checked_of of_expr
analyze_literal-returns t c = (then_ok _ (known_some _ (rw c.body-x.ensures.0 at (struct_is c.args.contract.now.img.now c.body-x.result _ c.in-Some.ensures))) (then_ok _ (rw (c.past-list.ensures.0, c.body-x.ensures.0) at c.in_ok-analyze_inits.ensures.0) (ap (λ (n : ℕ). ok (Typ.struct (name_at c.args.contract.now.img.now n))) c.body-x.ensures.0)), wrote (contract_at c.args.contract.now.img.now) _ (rw (c.past-list.ensures.0, c.body-x.ensures.0) at (was (contract_at c.args.contract.now.img.now) _ c.in_ok-analyze_inits.ensures.1 refl)))

pub analyze_literal-returns-in_err-analyze_inits : goal.analyze_literal-returns-in_err-analyze_inits
unfolding typed_of expr expr_as place_of mapped struct_named checked_of
analyze_literal-returns-in_err-analyze_inits t c = rw (handed_on _ _ c.from_residual.ensures.1) (then_ok _ (known_some _ (rw c.body-x.ensures.0 at (struct_is c.args.contract.now.img.now c.body-x.result _ c.in-Some.ensures))) (then_bad _ (rw (c.past-list.ensures.0, c.body-x.ensures.0) at c.in_err-analyze_inits.ensures.0)), refused (contract_at c.args.contract.now.img.now) _ _ refl)

pub analyze_literal-returns-in_default : goal.analyze_literal-returns-in_default
unfolding typed_of fault_of expr expr_as place_of mapped struct_named
analyze_literal-returns-in_default t c = (rw c.body-x.ensures.0 (then_bad _ (known_none _ (rw c.body-x.ensures.0 at (struct_is c.args.contract.now.img.now c.body-x.result _ c.in_default.ensures)))), refused (contract_at c.args.contract.now.img.now) _ _ refl)

pub analyze_mapping-returns : goal.analyze_mapping-returns
unfolding typed_of expr expr_as ty_of of_expr
analyze_mapping-returns t c = (then_ok _ (rw (c.past-key.ensures.0, c.body.ensures.0) at c.in_ok-analyze_expr.ensures.0) refl, wrote (contract_at c.args.contract.now.img.now) _ (rw (c.past-key.ensures.0, c.body.ensures.0) at (was (contract_at c.args.contract.now.img.now) _ c.in_ok-analyze_expr.ensures.1 refl)))

pub analyze_mapping-returns-in_err-analyze_expr : goal.analyze_mapping-returns-in_err-analyze_expr
unfolding typed_of expr expr_as
analyze_mapping-returns-in_err-analyze_expr t c = rw (handed_on _ _ c.from_residual.ensures.1) ((then_bad _ (rw (c.past-key.ensures.0, c.body.ensures.0) at c.in_err-analyze_expr.ensures.0)), refused (contract_at c.args.contract.now.img.now) _ _ refl)
