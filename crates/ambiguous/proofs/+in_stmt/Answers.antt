-- The cycle of in_body, in_for, in_if, in_stmt, in_while, then_body meets its contracts.
use native.Mathlib.Omega.{arith}
use mathlib.Core.Path.{refl, sym, ap, ◌∙◌}
use Rattle.rules.specs.Bytes.{pick, after}
use Rattle.rules.specs.Read.{stmt_at_lem, stmt_as, stmt_kind_of, sIf, sWhile, sFor, third, contract_at}
use Rattle.rules.specs.Ambiguous.{in_stmt_lem, in_stmts}
use Rattle.ambiguous.proofs.Trees.{stmt_zero, stmt_kind, else_there, else_not}
use Rattle.ambiguous.proofs.Walk.{then_first, then_second, else_else, else_none, three, body_none, body_here, body_next}
use Rattle.bounds.specs.Lists.{stmts_places}
use Rattle.ambiguous.proofs.+in_stmt.Goals as goal

pub in_body-loop-p-init : goal.in_body-loop-p-init
in_body-loop-p-init t c = ((tt, tt), rw (c.into_iter-p-iterator.ensures.into_iter_gives, c.list-p-items.ensures) (ap (in_stmts (contract_at c.args.analysed.now.contract.img.now)) (stmts_places _ (stmt_at_lem c.args.d c.args.analysed.now.contract.img.now) c.args.analysed.now.contract.img.now _ _)))

pub in_body-returns-in-Some-in_stmt : goal.in_body-returns-in-Some-in_stmt
in_body-returns-in-Some-in_stmt t c = body_here (contract_at c.args.analysed.now.contract.img.now) (stmt_at_lem c.args.d c.args.analysed.now.contract.img.now) c.in-Some.ensures.steps c.in-Some-in_stmt.ensures ∙ sym c.loop-p.invariant.1

pub in_body-loop-p-preserved : goal.in_body-loop-p-preserved
in_body-loop-p-preserved t c = ((tt, tt), c.loop-p.invariant.1 ∙ body_next (contract_at c.args.analysed.now.contract.img.now) (stmt_at_lem c.args.d c.args.analysed.now.contract.img.now) c.in-Some.ensures.steps c.in_default.is c.in_stmt.ensures)

pub in_body-returns : goal.in_body-returns
in_body-returns t c = body_none (contract_at c.args.analysed.now.contract.img.now) (stmt_at_lem c.args.d c.args.analysed.now.contract.img.now) c.in-None.ensures.steps.0 ∙ sym c.loop-p.invariant.1

pub in_for-returns : goal.in_for-returns
unfolding in_stmt_lem stmt_as
in_for-returns t c = (rw (c.in_two-t.ensures, c.past.ensures.0, c.past-to.ensures.0, c.second-from.ensures) at c.then_body.ensures) ∙ else_else _ _ _

pub in_if-returns-then-other-past : goal.in_if-returns-then-other-past
unfolding in_stmt_lem stmt_as
in_if-returns-then-other-past t c = rw (else_there (stmt_at_lem c.args.d c.args.analysed.now.contract.img.now) c.args.analysed.now.contract.img.now (third c.args.analysed.now.contract.img.now c.args.at) (after c.args.analysed.now.contract.img.now c.args.at) (c.past-other.ensures.0 ∙ ap (after c.args.analysed.now.contract.img.now) (c.past-then.ensures.0 ∙ ap (after c.args.analysed.now.contract.img.now) c.body-test.ensures.0)) c.past.ensures.0 c.if-other-past.true) (three _ _ (rw c.body-test.ensures.0 at c.in_expr-t.ensures) (rw (c.past-then.ensures.0, c.body-test.ensures.0) at c.then_body-a.ensures) (rw (c.past-other.ensures.0, c.past-then.ensures.0, c.body-test.ensures.0) at c.then_body.ensures))

pub in_if-returns-else-other-past : goal.in_if-returns-else-other-past
unfolding in_stmt_lem in_stmts stmt_as
in_if-returns-else-other-past t c = rw (else_not (stmt_at_lem c.args.d c.args.analysed.now.contract.img.now) c.args.analysed.now.contract.img.now (third c.args.analysed.now.contract.img.now c.args.at) (after c.args.analysed.now.contract.img.now c.args.at) (c.past-other.ensures.0 ∙ ap (after c.args.analysed.now.contract.img.now) (c.past-then.ensures.0 ∙ ap (after c.args.analysed.now.contract.img.now) c.body-test.ensures.0)) c.past.ensures.0 c.if-other-past.false) (three _ _ (rw c.body-test.ensures.0 at c.in_expr-t.ensures) (rw (c.past-then.ensures.0, c.body-test.ensures.0) at c.then_body-a.ensures) (sym (else_none _)))

pub in_stmt-returns-then-d-eq0 : goal.in_stmt-returns-then-d-eq0
unfolding in_stmt_lem
in_stmt-returns-then-d-eq0 t c = rw (stmt_zero c.args.d c.args.analysed.now.contract.img.now c.args.at c.if-d-eq0.true)

pub in_stmt-in_simple-requires : goal.in_stmt-in_simple-requires
in_stmt-in_simple-requires t c = ((omega arith), ((omega arith), (omega arith)))

pub in_stmt-returns-in-37 : goal.in_stmt-returns-in-37
unfolding stmt_kind_of pick
in_stmt-returns-in-37 t c = rw (stmt_kind c.args.d c.args.analysed.now.contract.img.now c.args.at c.kind-k.result sIf c.if-d-eq0.false c.kind-k.ensures.0 (ap stmt_kind_of c.in-37.is)) c.in_if.ensures

pub in_stmt-returns-in-38 : goal.in_stmt-returns-in-38
unfolding stmt_kind_of pick
in_stmt-returns-in-38 t c = rw (stmt_kind c.args.d c.args.analysed.now.contract.img.now c.args.at c.kind-k.result sWhile c.if-d-eq0.false c.kind-k.ensures.0 (ap stmt_kind_of c.in-38.is)) c.in_while.ensures

pub in_stmt-returns-in-39 : goal.in_stmt-returns-in-39
unfolding stmt_kind_of pick
in_stmt-returns-in-39 t c = rw (stmt_kind c.args.d c.args.analysed.now.contract.img.now c.args.at c.kind-k.result sFor c.if-d-eq0.false c.kind-k.ensures.0 (ap stmt_kind_of c.in-39.is)) c.in_for.ensures

pub in_stmt-returns-in_default : goal.in_stmt-returns-in_default
in_stmt-returns-in_default t c = rw (stmt_kind c.args.d c.args.analysed.now.contract.img.now c.args.at c.kind-k.result (stmt_kind_of c.kind-k.result) c.if-d-eq0.false c.kind-k.ensures.0 refl) c.in_simple.ensures

pub in_while-returns : goal.in_while-returns
unfolding in_stmt_lem stmt_as
in_while-returns t c = rw (c.in_expr-t.ensures, c.past.ensures.0, c.body-test.ensures.0) at c.then_body.ensures

pub then_body-returns-in-Some : goal.then_body-returns-in-Some
then_body-returns-in-Some t c = then_first _ (sym c.in-Some.is)

pub then_body-returns-in-None : goal.then_body-returns-in-None
then_body-returns-in-None t c = then_second _ c.in-None.is refl c.in_body.ensures
