-- The cycle of in_access, in_args, in_expr, in_inits, in_two meets its contracts.
use native.Mathlib.Omega.{arith}
use mathlib.Core.Path.{refl, sym, ap, ◌∙◌}
use Prim.Native.Nat.{◌-◌}
use Rattle.rules.specs.Bytes.{pick, after}
use Rattle.rules.specs.Read.{expr_at, expr_as, kind_of, kMapping, kAccess, kLiteral, kBinary, kCall, contract_at}
use Rattle.rules.specs.Ambiguous.{in_expr_lem, in_exprs, in_inits_lem}
use Rattle.ambiguous.proofs.Trees.{at_zero, at_kind}
use Rattle.ambiguous.proofs.Walk.{then_first, then_second, leaf_kind, args_none, args_here, args_next, inits_none, inits_here, inits_next}
use Rattle.bounds.specs.Lists.{exprs_places, inits_places}
use Rattle.ambiguous.proofs.+in_expr.Goals as goal

pub in_access-is_ambiguous_at-requires : goal.in_access-is_ambiguous_at-requires
in_access-is_ambiguous_at-requires t c = c.past.ensures.0 ∙ ap (after c.args.analysed.now.contract.img.now) c.body-base.ensures.0

pub in_access-returns-then-is_ambiguous_at : goal.in_access-returns-then-is_ambiguous_at
unfolding in_expr_lem expr_as pick
in_access-returns-then-is_ambiguous_at t c = rw (rw (c.past.ensures.0, c.body-base.ensures.0) at (sym c.is_ambiguous_at.ensures ∙ c.if-is_ambiguous_at.true))

pub in_access-returns : goal.in_access-returns
unfolding in_expr_lem expr_as pick
in_access-returns t c = rw (rw (c.past.ensures.0, c.body-base.ensures.0) at (sym c.is_ambiguous_at.ensures ∙ c.if-is_ambiguous_at.false)) (rw c.body-base.ensures.0 at c.in_expr.ensures)

pub in_args-loop-p-init : goal.in_args-loop-p-init
in_args-loop-p-init t c = ((tt, tt), rw (c.into_iter-p-iterator.ensures.into_iter_gives, c.list-p-items.ensures) (ap (in_exprs (contract_at c.args.analysed.now.contract.img.now)) (exprs_places _ (expr_at c.args.d c.args.analysed.now.contract.img.now) c.args.analysed.now.contract.img.now _ _)))

pub in_args-returns-in-Some-in_expr : goal.in_args-returns-in-Some-in_expr
in_args-returns-in-Some-in_expr t c = args_here (contract_at c.args.analysed.now.contract.img.now) (expr_at c.args.d c.args.analysed.now.contract.img.now) c.in-Some.ensures.steps c.in-Some-in_expr.ensures ∙ sym c.loop-p.invariant.1

pub in_args-loop-p-preserved : goal.in_args-loop-p-preserved
in_args-loop-p-preserved t c = ((tt, tt), c.loop-p.invariant.1 ∙ args_next (contract_at c.args.analysed.now.contract.img.now) (expr_at c.args.d c.args.analysed.now.contract.img.now) c.in-Some.ensures.steps c.in_default.is c.in_expr.ensures)

pub in_args-returns : goal.in_args-returns
in_args-returns t c = args_none (contract_at c.args.analysed.now.contract.img.now) (expr_at c.args.d c.args.analysed.now.contract.img.now) c.in-None.ensures.steps.0 ∙ sym c.loop-p.invariant.1

pub in_expr-returns-then-d-eq0 : goal.in_expr-returns-then-d-eq0
unfolding in_expr_lem
in_expr-returns-then-d-eq0 t c = rw (at_zero c.args.d c.args.analysed.now.contract.img.now c.args.at c.if-d-eq0.true)

pub in_expr-returns-in-67 : goal.in_expr-returns-in-67
unfolding in_expr_lem expr_as kind_of pick
in_expr-returns-in-67 t c = rw (at_kind c.args.d c.args.analysed.now.contract.img.now c.args.at c.kind-k.result kMapping c.if-d-eq0.false c.kind-k.ensures.0 (ap kind_of c.in-67.is)) (rw c.second.ensures at c.in_expr.ensures)

pub in_expr-returns-in-68 : goal.in_expr-returns-in-68
unfolding kind_of pick
in_expr-returns-in-68 t c = rw (at_kind c.args.d c.args.analysed.now.contract.img.now c.args.at c.kind-k.result kAccess c.if-d-eq0.false c.kind-k.ensures.0 (ap kind_of c.in-68.is)) c.in_access.ensures

pub in_expr-returns-in-69 : goal.in_expr-returns-in-69
unfolding in_expr_lem expr_as kind_of pick
in_expr-returns-in-69 t c = rw (at_kind c.args.d c.args.analysed.now.contract.img.now c.args.at c.kind-k.result kLiteral c.if-d-eq0.false c.kind-k.ensures.0 (ap kind_of c.in-69.is)) (rw c.second-in-69.ensures at c.in_inits.ensures)

pub in_expr-returns-in-70 : goal.in_expr-returns-in-70
unfolding in_expr_lem expr_as kind_of pick
in_expr-returns-in-70 t c = rw (at_kind c.args.d c.args.analysed.now.contract.img.now c.args.at c.kind-k.result kBinary c.if-d-eq0.false c.kind-k.ensures.0 (ap kind_of c.in-70.is)) (rw (c.body.ensures.0, c.past.ensures.0, c.second-in-70.ensures) at c.in_two.ensures)

pub in_expr-returns-in-71 : goal.in_expr-returns-in-71
unfolding in_expr_lem expr_as kind_of pick
in_expr-returns-in-71 t c = rw (at_kind c.args.d c.args.analysed.now.contract.img.now c.args.at c.kind-k.result kCall c.if-d-eq0.false c.kind-k.ensures.0 (ap kind_of c.in-71.is)) (rw c.second-in-71.ensures at c.in_args.ensures)

pub in_expr-returns-in_default : goal.in_expr-returns-in_default
in_expr-returns-in_default t c = rw (at_kind c.args.d c.args.analysed.now.contract.img.now c.args.at c.kind-k.result (kind_of c.kind-k.result) c.if-d-eq0.false c.kind-k.ensures.0 refl) (leaf_kind (contract_at c.args.analysed.now.contract.img.now) (expr_at (c.args.d - 1) c.args.analysed.now.contract.img.now) c.args.analysed.now.contract.img.now c.args.at c.kind-k.result (omega arith) (omega arith) (omega arith) (omega arith) (omega arith))

pub in_inits-loop-p-init : goal.in_inits-loop-p-init
in_inits-loop-p-init t c = ((tt, tt), rw (c.into_iter-p-iterator.ensures.into_iter_gives, c.list-p-items.ensures) (ap (in_inits_lem (contract_at c.args.analysed.now.contract.img.now)) (inits_places _ (expr_at c.args.d c.args.analysed.now.contract.img.now) c.args.analysed.now.contract.img.now _ _)))

pub in_inits-returns-in-Some-in_expr : goal.in_inits-returns-in-Some-in_expr
in_inits-returns-in-Some-in_expr t c = inits_here (contract_at c.args.analysed.now.contract.img.now) (expr_at c.args.d c.args.analysed.now.contract.img.now) c.in-Some.ensures.steps c.args.analysed.now.contract.img.now (rw c.second.ensures at c.in-Some-in_expr.ensures) ∙ sym c.loop-p.invariant.1

pub in_inits-loop-p-preserved : goal.in_inits-loop-p-preserved
in_inits-loop-p-preserved t c = ((tt, tt), c.loop-p.invariant.1 ∙ inits_next (contract_at c.args.analysed.now.contract.img.now) (expr_at c.args.d c.args.analysed.now.contract.img.now) c.in-Some.ensures.steps c.args.analysed.now.contract.img.now c.in_default.is (rw c.second.ensures at c.in_expr.ensures))

pub in_inits-returns : goal.in_inits-returns
in_inits-returns t c = inits_none (contract_at c.args.analysed.now.contract.img.now) (expr_at c.args.d c.args.analysed.now.contract.img.now) c.args.analysed.now.contract.img.now c.in-None.ensures.steps.0 ∙ sym c.loop-p.invariant.1

pub in_two-returns-in-Some : goal.in_two-returns-in-Some
in_two-returns-in-Some t c = then_first _ c.in-Some.ensures

pub in_two-returns-in-None : goal.in_two-returns-in-None
in_two-returns-in-None t c = then_second _ c.in-None.is c.in_expr.ensures c.in_expr-in-None.ensures
