-- +analyze_stmt meets its contract.
use Rattle.lookup.specs.Results.{handed_on}
use Rattle.rules.specs.Meant.{of_stmt, of_stmts}
use Prim.Native.Nat.{◌-◌}
use Rattle.bounds.specs.Lists.{stmts_places}
use Rattle.bounds.specs.Sizes.{vars, vars-stmts}
use Rattle.lookup.specs.Answers.{ty_of, typed_of}
use Rattle.lookup.specs.Scope.{pushed_env}
use Rattle.rules.specs.Analyse.{stmt, stmts}
use Rattle.rules.specs.Bytes.{pick, inside, after}
use Rattle.rules.specs.Read.{expr_at, sFor, sIf, sLet, sWhile, stmt_as, stmt_at_lem, stmt_kind_of}
use Rattle.sema.proofs.Runs.{first_bad, first_ok, for_bad, for_done, in_top, step_bad, step_then, still_ok}
use Rattle.sema.proofs.Trees.{else_not, else_there, stmt_kind, stmt_zero, stmts_more, stmts_none, vars_for, vars_if, vars_let, vars_more, vars_while}
use Rattle.sema.specs.Steps.{in_loop}
use mathlib.Core.Path.{◌∙◌, ap, refl}
use native.Mathlib.Omega.{arith}
use Rattle.sema.proofs.+analyze_stmt.Goals as goal

pub analyze_else-analyze_list-requires : goal.analyze_else-analyze_list-requires
analyze_else-analyze_list-requires t c = (omega arith, rw (else_there (stmt_at_lem c.args.d c.args.contract.now.img.now) c.args.contract.now.img.now c.args.at c.args.end c.if-at-end.true) at c.requires)

pub analyze_else-returns-then-at-end : goal.analyze_else-returns-then-at-end
analyze_else-returns-then-at-end t c = rw (else_there (stmt_at_lem c.args.d c.args.contract.now.img.now) c.args.contract.now.img.now c.args.at c.args.end c.if-at-end.true) c.analyze_list.ensures

pub analyze_else-returns-else-at-end : goal.analyze_else-returns-else-at-end
unfolding stmts of_stmts vars-stmts
analyze_else-returns-else-at-end t c = rw (else_not (stmt_at_lem c.args.d c.args.contract.now.img.now) c.args.contract.now.img.now c.args.at c.args.end c.if-at-end.false) (still_ok refl)

pub analyze_for-analyze_loop-requires : goal.analyze_for-analyze_loop-requires
analyze_for-analyze_loop-requires t c = (omega arith, rw (c.past.ensures.0, c.past-to.ensures.0, c.past-from.ensures.0, c.body-x.ensures.0) (omega (arith, vars_for (expr_at c.args.d c.args.contract.now.img.now) (stmt_at_lem c.args.d c.args.contract.now.img.now) c.args.contract.now.img.now c.args.at, c.requires)))

pub analyze_for-returns : goal.analyze_for-returns
unfolding stmt of_stmt stmt_as vars typed_of in_loop
analyze_for-returns t c = first_ok _ _ (rw (c.past-from.ensures.0, c.body-x.ensures.0) at c.in_ok-analyze_expr.ensures.0) ((rw (c.past-from.ensures.0, c.body-x.ensures.0) at c.in_ok-analyze_expr.ensures.1).all _ refl) (first_ok _ _ (rw (c.past-to.ensures.0, c.past-from.ensures.0, c.body-x.ensures.0) at c.in_ok-analyze_expr-2.ensures.0) ((rw (c.past-to.ensures.0, c.past-from.ensures.0, c.body-x.ensures.0) at c.in_ok-analyze_expr-2.ensures.1).all _ refl) (rw (c.past.ensures.0, c.past-to.ensures.0, c.past-from.ensures.0, c.body-x.ensures.0) at c.analyze_loop.ensures))

pub analyze_for-returns-in_err-analyze_expr-2 : goal.analyze_for-returns-in_err-analyze_expr-2
unfolding stmt of_stmt stmt_as vars typed_of
analyze_for-returns-in_err-analyze_expr-2 t c = rw (handed_on _ _ c.from_residual-in_err-analyze_expr-2.ensures.1) (first_ok _ _ (rw (c.past-from.ensures.0, c.body-x.ensures.0) at c.in_ok-analyze_expr.ensures.0) ((rw (c.past-from.ensures.0, c.body-x.ensures.0) at c.in_ok-analyze_expr.ensures.1).all _ refl) (first_bad _ (rw (c.past-to.ensures.0, c.past-from.ensures.0, c.body-x.ensures.0) at c.in_err-analyze_expr-2.ensures.0)))

pub analyze_for-returns-in_err-analyze_expr : goal.analyze_for-returns-in_err-analyze_expr
unfolding stmt of_stmt stmt_as vars typed_of
analyze_for-returns-in_err-analyze_expr t c = rw (handed_on _ _ c.from_residual.ensures.1) (first_bad _ (rw (c.past-from.ensures.0, c.body-x.ensures.0) at c.in_err-analyze_expr.ensures.0))

pub analyze_if-analyze_list-requires : goal.analyze_if-analyze_list-requires
analyze_if-analyze_list-requires t c = (omega arith, rw (c.past-then.ensures.0, c.body-test.ensures.0) (omega (arith, vars_if (expr_at c.args.d c.args.contract.now.img.now) (stmt_at_lem c.args.d c.args.contract.now.img.now) c.args.contract.now.img.now c.args.at, c.requires)))

pub analyze_if-analyze_else-requires : goal.analyze_if-analyze_else-requires
analyze_if-analyze_else-requires t c = (omega arith, rw (c.past-end.ensures.0, c.past-other.ensures.0, c.past-then.ensures.0, c.body-test.ensures.0) (omega (arith, vars_if (expr_at c.args.d c.args.contract.now.img.now) (stmt_at_lem c.args.d c.args.contract.now.img.now) c.args.contract.now.img.now c.args.at, c.requires, (in_top (rw (c.past-then.ensures.0, c.body-test.ensures.0) at c.in_ok-k.ensures) refl).1, c.in_ok-k.ensures.size)))

pub analyze_if-returns : goal.analyze_if-returns
unfolding stmt of_stmt stmt_as vars typed_of
analyze_if-returns t c = first_ok _ _ (rw c.body-test.ensures.0 at c.in_ok-analyze_expr.ensures.0) ((rw c.body-test.ensures.0 at c.in_ok-analyze_expr.ensures.1).all _ refl) (step_then (rw (c.past-then.ensures.0, c.body-test.ensures.0) at c.in_ok-k.ensures) _ _ refl (rw (c.past-end.ensures.0, c.past-other.ensures.0, c.past-then.ensures.0, c.body-test.ensures.0) at c.analyze_else.ensures))

pub analyze_if-returns-in_err-k : goal.analyze_if-returns-in_err-k
unfolding stmt of_stmt stmt_as vars typed_of
analyze_if-returns-in_err-k t c = rw (handed_on _ _ c.from_residual-in_err-k.ensures.1) (first_ok _ _ (rw c.body-test.ensures.0 at c.in_ok-analyze_expr.ensures.0) ((rw c.body-test.ensures.0 at c.in_ok-analyze_expr.ensures.1).all _ refl) (step_bad (rw (c.past-then.ensures.0, c.body-test.ensures.0) at c.in_err-k.ensures) _ refl))

pub analyze_if-returns-in_err-analyze_expr : goal.analyze_if-returns-in_err-analyze_expr
unfolding stmt of_stmt stmt_as vars typed_of
analyze_if-returns-in_err-analyze_expr t c = rw (handed_on _ _ c.from_residual.ensures.1) (first_bad _ (rw c.body-test.ensures.0 at c.in_err-analyze_expr.ensures.0))

pub analyze_list-loop-p-init : goal.analyze_list-loop-p-init
analyze_list-loop-p-init t c = rw (c.into_iter-p-iterator.ensures.into_iter_gives, c.list-p-items.ensures, ← stmts_places 65536 (stmt_at_lem c.args.d c.args.contract.now.img.now) c.args.contract.now.img.now (inside c.args.contract.now.img.now c.args.at) (after c.args.contract.now.img.now c.args.at)) ((tt, tt), c.requires, refl, λ e2 M r s. s)

pub analyze_list-analyze_stmt-requires : goal.analyze_list-analyze_stmt-requires
analyze_list-analyze_stmt-requires t c = (omega arith, omega (arith, vars_more (stmt_at_lem c.args.d c.args.contract.now.img.now) c.in-Some.ensures.steps, c.loop-p.invariant.1))

pub analyze_list-loop-p-preserved : goal.analyze_list-loop-p-preserved
unfolding stmts of_stmts vars-stmts
analyze_list-loop-p-preserved t c = (
  (tt, tt),
  omega (arith, vars_more (stmt_at_lem c.args.d c.args.contract.now.img.now) c.in-Some.ensures.steps, c.loop-p.invariant.1, (in_top c.in_ok-t.ensures refl).1, c.in_ok-t.ensures.size),
  c.in_ok-t.ensures.size ∙ c.loop-p.invariant.2,
  λ e2 M r s. c.loop-p.invariant.3 e2 M r (rw (stmts_more (stmt_at_lem c.args.d c.args.contract.now.img.now) c.in-Some.ensures.steps) (step_then c.in_ok-t.ensures _ _ refl s)),
)

pub analyze_list-returns-in_err-t : goal.analyze_list-returns-in_err-t
unfolding stmts of_stmts vars-stmts
analyze_list-returns-in_err-t t c = rw (handed_on _ _ c.from_residual.ensures.1) (c.loop-p.invariant.3 _ _ _ (rw (stmts_more (stmt_at_lem c.args.d c.args.contract.now.img.now) c.in-Some.ensures.steps) (step_bad c.in_err-t.ensures _ refl)))

pub analyze_list-returns : goal.analyze_list-returns
unfolding stmts of_stmts vars-stmts
analyze_list-returns t c = c.loop-p.invariant.3 _ _ _ (rw (stmts_none (stmt_at_lem c.args.d c.args.contract.now.img.now) c.in-None.ensures.steps.0) (still_ok refl))

pub analyze_loop-push-inner-requires : goal.analyze_loop-push-inner-requires
analyze_loop-push-inner-requires t c = (omega (arith, c.requires), c.args.contract.now.tabled.small)

pub analyze_loop-analyze_list-requires : goal.analyze_loop-analyze_list-requires
analyze_loop-analyze_list-requires t c = (omega arith, omega (arith, c.requires, c.push-inner.ensures.next, c.push-inner.ensures.size))

pub analyze_loop-returns : goal.analyze_loop-returns
unfolding in_loop ty_of
analyze_loop-returns t c = for_done c.push-inner.ensures (rw (pushed_env c.push-inner.ensures) at c.in_ok-analyze_list.ensures) refl

pub analyze_loop-returns-in_err-analyze_list : goal.analyze_loop-returns-in_err-analyze_list
unfolding in_loop ty_of
analyze_loop-returns-in_err-analyze_list t c = rw (handed_on _ _ c.from_residual.ensures.1) (for_bad c.push-inner.ensures (rw (pushed_env c.push-inner.ensures) at c.in_err-analyze_list.ensures) refl)

pub analyze_stmt-returns-then-d-eq0 : goal.analyze_stmt-returns-then-d-eq0
unfolding stmt of_stmt vars
analyze_stmt-returns-then-d-eq0 t c = rw (stmt_zero c.args.d c.args.contract.now.img.now c.args.at c.if-d-eq0.true) (still_ok refl)

pub analyze_stmt-analyze_let-requires : goal.analyze_stmt-analyze_let-requires
unfolding stmt_kind_of pick
analyze_stmt-analyze_let-requires t c = omega (arith, rw (stmt_kind c.args.d c.args.contract.now.img.now c.args.at c.kind-k.result sLet c.if-d-eq0.false c.kind-k.ensures.0 (ap stmt_kind_of c.in-32.is)) at c.requires, vars_let (expr_at (c.args.d - 1) c.args.contract.now.img.now) (stmt_at_lem (c.args.d - 1) c.args.contract.now.img.now) c.args.contract.now.img.now c.args.at)

pub analyze_stmt-analyze_if-requires : goal.analyze_stmt-analyze_if-requires
unfolding stmt_kind_of pick
analyze_stmt-analyze_if-requires t c = (omega arith, rw (stmt_kind c.args.d c.args.contract.now.img.now c.args.at c.kind-k.result sIf c.if-d-eq0.false c.kind-k.ensures.0 (ap stmt_kind_of c.in-37.is)) at c.requires)

pub analyze_stmt-analyze_while-requires : goal.analyze_stmt-analyze_while-requires
unfolding stmt_kind_of pick
analyze_stmt-analyze_while-requires t c = (omega arith, rw (stmt_kind c.args.d c.args.contract.now.img.now c.args.at c.kind-k.result sWhile c.if-d-eq0.false c.kind-k.ensures.0 (ap stmt_kind_of c.in-38.is)) at c.requires)

pub analyze_stmt-analyze_for-requires : goal.analyze_stmt-analyze_for-requires
unfolding stmt_kind_of pick
analyze_stmt-analyze_for-requires t c = (omega arith, rw (stmt_kind c.args.d c.args.contract.now.img.now c.args.at c.kind-k.result sFor c.if-d-eq0.false c.kind-k.ensures.0 (ap stmt_kind_of c.in-39.is)) at c.requires)

pub analyze_stmt-analyze_simple-requires : goal.analyze_stmt-analyze_simple-requires
analyze_stmt-analyze_simple-requires t c = (omega arith, (omega arith, (omega arith, omega arith)))

pub analyze_stmt-returns-in-32 : goal.analyze_stmt-returns-in-32
unfolding stmt_kind_of pick
analyze_stmt-returns-in-32 t c = rw (stmt_kind c.args.d c.args.contract.now.img.now c.args.at c.kind-k.result sLet c.if-d-eq0.false c.kind-k.ensures.0 (ap stmt_kind_of c.in-32.is)) (c.analyze_let.ensures _)

pub analyze_stmt-returns-in-37 : goal.analyze_stmt-returns-in-37
unfolding stmt_kind_of pick
analyze_stmt-returns-in-37 t c = rw (stmt_kind c.args.d c.args.contract.now.img.now c.args.at c.kind-k.result sIf c.if-d-eq0.false c.kind-k.ensures.0 (ap stmt_kind_of c.in-37.is)) c.analyze_if.ensures

pub analyze_stmt-returns-in-38 : goal.analyze_stmt-returns-in-38
unfolding stmt_kind_of pick
analyze_stmt-returns-in-38 t c = rw (stmt_kind c.args.d c.args.contract.now.img.now c.args.at c.kind-k.result sWhile c.if-d-eq0.false c.kind-k.ensures.0 (ap stmt_kind_of c.in-38.is)) c.analyze_while.ensures

pub analyze_stmt-returns-in-39 : goal.analyze_stmt-returns-in-39
unfolding stmt_kind_of pick
analyze_stmt-returns-in-39 t c = rw (stmt_kind c.args.d c.args.contract.now.img.now c.args.at c.kind-k.result sFor c.if-d-eq0.false c.kind-k.ensures.0 (ap stmt_kind_of c.in-39.is)) c.analyze_for.ensures

pub analyze_stmt-returns-in_default : goal.analyze_stmt-returns-in_default
analyze_stmt-returns-in_default t c = rw (stmt_kind c.args.d c.args.contract.now.img.now c.args.at c.kind-k.result (stmt_kind_of c.kind-k.result) c.if-d-eq0.false c.kind-k.ensures.0 refl) c.analyze_simple.ensures

pub analyze_while-analyze_list-requires : goal.analyze_while-analyze_list-requires
analyze_while-analyze_list-requires t c = (omega arith, rw (c.past.ensures.0, c.body-test.ensures.0) (omega (arith, vars_while (expr_at c.args.d c.args.contract.now.img.now) (stmt_at_lem c.args.d c.args.contract.now.img.now) c.args.contract.now.img.now c.args.at, c.requires)))

pub analyze_while-returns : goal.analyze_while-returns
unfolding stmt of_stmt stmt_as vars typed_of
analyze_while-returns t c = first_ok _ _ (rw c.body-test.ensures.0 at c.in_ok-analyze_expr.ensures.0) ((rw c.body-test.ensures.0 at c.in_ok-analyze_expr.ensures.1).all _ refl) (rw (c.past.ensures.0, c.body-test.ensures.0) at c.analyze_list.ensures)

pub analyze_while-returns-in_err-analyze_expr : goal.analyze_while-returns-in_err-analyze_expr
unfolding stmt of_stmt stmt_as vars typed_of
analyze_while-returns-in_err-analyze_expr t c = rw (handed_on _ _ c.from_residual.ensures.1) (first_bad _ (rw c.body-test.ensures.0 at c.in_err-analyze_expr.ensures.0))
