-- The cycle of the statements meets its contracts; each answer begins with the name of its function.
use Prim.Native.Nat.{◌+◌, ◌%◌, ◌-◌}
use native.Mathlib.Omega.{arith}
use mathlib.Core.Path.{refl, ◌∙◌, sym, ap}
use Rattle.rules.specs.Read.{stmt_at_lem, stmt_as, contract_at, stmt_kind_of, sLet, sConstrain, sAssign, sStorage, sMapping, sIf, sWhile, sFor, sReturn, sEmit, sExpr, sOther}
use Rattle.emit.specs.Steps as steps
use Rattle.emit.specs.Ran.{raw}
use Rattle.emit.specs.Refines.{still, seq, renewed}
use Rattle.stmt.proofs.Names.{idle, joined, put_back, back_frame, behind_one, fewer, behind}
use Rattle.stmt.proofs.Trees.{else_some, else_none, third_is, at_none, at_kind, other}
use Rattle.bounds.specs.Sizes.{vars}
use Rattle.expr.specs.Scope.{scope_in}
use Rattle.stmt.specs.Runs.{here, for_loop, stepping}
use lib.ListN.{length-set}
use Rattle.isa.specs.declared.Opcode.TheVariants as op
use Rattle.rules.specs.Machine.{Imm}
use Rattle.rules.specs.Emit.{jump}
use Rattle.stmt.proofs.Laws.{slotted, circled}
use mathlib.Core.Bool.{true, false}
use Rattle.emit.specs.Leaves.{raw_word}
use Rattle.rules.specs.Bytes.{pick}
use Rattle.stmt.proofs.Lists.{goes_on, begins, roomy, goes, ends_all}
use Rattle.stmt.proofs.+gen_stmt.Goals as goal

pub gen_else-gen_stmts-requires : goal.gen_else-gen_stmts-requires
gen_else-gen_stmts-requires t c = (omega arith, (rw (c.body-p.ensures.0, c.past-q.ensures.0) (rw (else_some (stmt_at_lem c.args.d c.args.analysed.now.contract.img.now) c.args.analysed.now.contract.img.now c.args.list c.args.end c.if-list-end.true) at c.requires), c.past-q.ensures.1))

pub gen_else-returns-then-list-end : goal.gen_else-returns-then-list-end
gen_else-returns-then-list-end t c = rw (else_some (stmt_at_lem c.args.d c.args.analysed.now.contract.img.now) c.args.analysed.now.contract.img.now c.args.list c.args.end c.if-list-end.true) (rw (c.body-p.ensures.0, c.past-q.ensures.0) at c.gen_stmts.ensures)

pub gen_else-returns-else-list-end : goal.gen_else-returns-else-list-end
unfolding steps.gen_stmts_lem
gen_else-returns-else-list-end t c = rw (else_none (stmt_at_lem c.args.d c.args.analysed.now.contract.img.now) c.args.analysed.now.contract.img.now c.args.list c.args.end c.if-list-end.false) (record { ran = still (raw _) refl refl; frame = idle _ _ })

pub gen_for-bounds-scope-0 : goal.gen_for-bounds-scope-0
gen_for-bounds-scope-0 t c = omega (arith, c.requires.size)

pub gen_for-bind-requires : goal.gen_for-bind-requires
unfolding vars stmt_as
gen_for-bind-requires t c = (omega (arith, c.requires.names), (c.requires.size, c.args.analysed.now.contract.tabled.small))

pub gen_for-gen_loop-l-requires : goal.gen_for-gen_loop-l-requires
unfolding vars stmt_as
gen_for-gen_loop-l-requires t c = (omega arith, rw (c.past-list.ensures.0, c.past-to.ensures.0, c.past-from.ensures.0, c.body-var.ensures.0) (behind_one c.requires c.bind.ensures.frame c.bind.auto.scope))

pub gen_for-bounds-scope-0-2 : goal.gen_for-bounds-scope-0-2
gen_for-bounds-scope-0-2 t c = omega (arith, c.requires.size, c.gen_loop-l.auto.scope, c.bind.auto.scope)

pub gen_for-shape_of-code : goal.gen_for-shape_of-code
gen_for-shape_of-code t c = c.gen_loop-l.auto.code ∙ c.emit_new-i.auto.code ∙ c.gen_expr-w.auto.code ∙ c.gen_expr-v.auto.code

pub gen_for-shape_of-bytes : goal.gen_for-shape_of-bytes
gen_for-shape_of-bytes t c = c.gen_loop-l.auto.bytes ∙ c.emit_new-i.auto.bytes ∙ c.gen_expr-w.auto.bytes ∙ c.gen_expr-v.auto.bytes

pub gen_for-shape_of-scope : goal.gen_for-shape_of-scope
gen_for-shape_of-scope t c = simp length-set (c.gen_loop-l.auto.scope ∙ c.bind.auto.scope)

pub gen_for-returns : goal.gen_for-returns
unfolding steps.gen_stmt_lem stmt_as vars for_loop stepping
gen_for-returns t c = record {
  ran = rw (put_back c.args.analysed.now.contract.img.now (joined c.bind.ensures.frame c.gen_loop-l.ensures.frame) (omega (arith, c.requires.size, c.gen_loop-l.auto.scope, c.bind.auto.scope)), c.with.ensures)
      (seq (raw _) _ (rw (c.past-from.ensures.0, c.body-var.ensures.0) at c.gen_expr-v.ensures)
      (seq (raw _) _ (rw (c.past-to.ensures.0, c.past-from.ensures.0, c.body-var.ensures.0) at c.gen_expr-w.ensures)
      (renewed (raw _) _ _ _ (c.emit_new-i.ensures.ran _)
      (seq (raw _) _ (rw (c.emit_new-i.ensures.next, c.bind.ensures.scope, c.past-list.ensures.0, c.past-to.ensures.0, c.past-from.ensures.0, c.body-var.ensures.0) at (c.gen_loop-l.ensures.ran (here (scope_in c.args.analysed.now.contract.img.now c.args.scope.now) c.args.st.next)))
      (still (raw _) refl refl)))));
  frame = back_frame c.args.analysed.now.contract.img.now (joined c.bind.ensures.frame c.gen_loop-l.ensures.frame) (omega (arith, c.requires.size, c.gen_loop-l.auto.scope, c.bind.auto.scope)) _;
}

pub gen_if-gen_else-e-requires : goal.gen_if-gen_else-e-requires
unfolding vars stmt_as
gen_if-gen_else-e-requires t c = (omega arith, rw (third_is c.args.analysed.now.contract.img.now c.args.at c.body-cond.ensures.0 c.past-then.ensures.0 c.past-el.ensures.0, c.past-end.ensures.0) (fewer c.requires (omega arith)))

pub gen_if-gen_stmts-t-requires : goal.gen_if-gen_stmts-t-requires
unfolding vars stmt_as
gen_if-gen_stmts-t-requires t c = (omega arith, (rw (c.body-p.ensures.0, c.past-el.ensures.0, c.past-then.ensures.0, c.body-cond.ensures.0) (behind c.requires (rw (third_is c.args.analysed.now.contract.img.now c.args.at c.body-cond.ensures.0 c.past-then.ensures.0 c.past-el.ensures.0, c.past-end.ensures.0) at c.gen_else-e.ensures.frame) c.gen_else-e.auto.scope), c.past-el.ensures.1))

pub gen_if-shape_of-code : goal.gen_if-shape_of-code
gen_if-shape_of-code t c = c.land-2.auto.code ∙ c.gen_stmts-t.auto.code ∙ c.land.auto.code ∙ c.gen_else-e.auto.code ∙ c.gen_expr-v.auto.code

pub gen_if-shape_of-bytes : goal.gen_if-shape_of-bytes
gen_if-shape_of-bytes t c = c.land-2.auto.bytes ∙ c.gen_stmts-t.auto.bytes ∙ c.land.auto.bytes ∙ c.gen_else-e.auto.bytes ∙ c.gen_expr-v.auto.bytes

pub gen_if-shape_of-scope : goal.gen_if-shape_of-scope
gen_if-shape_of-scope t c = c.gen_stmts-t.auto.scope ∙ c.gen_else-e.auto.scope

pub gen_if-returns : goal.gen_if-returns
unfolding steps.gen_stmt_lem stmt_as vars
gen_if-returns t c = record {
  ran = seq (raw _) _ (rw c.body-cond.ensures.0 at c.gen_expr-v.ensures)
      (seq (raw _) _ (slotted (raw _) (λ d. jump c.args.at op.Jnz (c.gen_expr-v.result.reg % 256) (Imm.pos (d + 2))) _ c.open_slot-a.ensures.reserved (rw (third_is c.args.analysed.now.contract.img.now c.args.at c.body-cond.ensures.0 c.past-then.ensures.0 c.past-el.ensures.0, c.past-end.ensures.0, c.open_slot-a.ensures.next) at c.gen_else-e.ensures.ran) (c.land.ensures.stored _ _))
      (slotted (raw _) (λ d. jump c.args.at op.Jmp 0 (Imm.pos (d + 1))) _ c.open_slot-b.ensures.reserved (rw (c.body-p.ensures.0, c.past-el.ensures.0, c.past-then.ensures.0, c.body-cond.ensures.0, c.open_slot-b.ensures.next) at c.gen_stmts-t.ensures.ran) (c.land-2.ensures.stored _ _)));
  frame = joined (rw (third_is c.args.analysed.now.contract.img.now c.args.at c.body-cond.ensures.0 c.past-then.ensures.0 c.past-el.ensures.0, c.past-end.ensures.0) at c.gen_else-e.ensures.frame) (rw (c.body-p.ensures.0, c.past-el.ensures.0, c.past-then.ensures.0, c.body-cond.ensures.0) at c.gen_stmts-t.ensures.frame);
}

pub gen_loop-gen_stmts-b-requires : goal.gen_loop-gen_stmts-b-requires
gen_loop-gen_stmts-b-requires t c = (omega arith, (rw (c.body-p.ensures.0, c.past-q.ensures.0) c.requires, c.past-q.ensures.1))

pub gen_loop-overflow_sub-s : goal.gen_loop-overflow_sub-s
gen_loop-overflow_sub-s t c = omega (arith, (c.emit_new-v.ensures.ran (contract_at c.args.analysed.now.contract.img.now)).grows, (c.emit-j.ensures.ran (contract_at c.args.analysed.now.contract.img.now) 0 true).grows, c.open_slot-a.ensures.reserved.grows, c.gen_stmts-b.ensures.ran.grows, (c.step-s.ensures.ran (contract_at c.args.analysed.now.contract.img.now) (here (scope_in c.args.analysed.now.contract.img.now c.args.scope.now) 0)).grows)

pub gen_loop-shape_of-code : goal.gen_loop-shape_of-code
gen_loop-shape_of-code t c = c.land.auto.code ∙ c.emit-w.auto.code ∙ c.step-s.auto.code ∙ c.gen_stmts-b.auto.code ∙ c.emit-j.auto.code ∙ c.emit_new-v.auto.code

pub gen_loop-shape_of-bytes : goal.gen_loop-shape_of-bytes
gen_loop-shape_of-bytes t c = c.land.auto.bytes ∙ c.emit-w.auto.bytes ∙ c.step-s.auto.bytes ∙ c.gen_stmts-b.auto.bytes ∙ c.emit-j.auto.bytes ∙ c.emit_new-v.auto.bytes

pub gen_loop-shape_of-scope : goal.gen_loop-shape_of-scope
gen_loop-shape_of-scope t c = c.gen_stmts-b.auto.scope

pub gen_loop-returns : goal.gen_loop-returns
unfolding for_loop
gen_loop-returns t c = record {
  ran = λ h. circled (raw _) _ _ _ (c.emit_new-v.ensures.ran _) (c.emit-j.ensures.ran _ _ true) c.open_slot-a.ensures.reserved
      (seq (raw _) _ (rw (c.body-p.ensures.0, c.past-q.ensures.0, c.open_slot-a.ensures.next) at c.gen_stmts-b.ensures.ran) (c.step-s.ensures.ran _ h))
      (c.emit-w.ensures.any _ _ (raw_word _ c.args.at false (record { op = op.Jmp; rd = 0; rs1 = 0; rs2 = 0; imm = Imm.neg (c.step-s.result.n - c.args.st.n) }) _ (sym c.backward.ensures)))
      c.emit-w.ensures.count (c.land.ensures.stored _ _);
  frame = rw (c.body-p.ensures.0, c.past-q.ensures.0) at c.gen_stmts-b.ensures.frame;
}

pub gen_stmt-returns-then-depth-eq0 : goal.gen_stmt-returns-then-depth-eq0
unfolding steps.gen_stmt_lem
gen_stmt-returns-then-depth-eq0 t c = rw (at_none c.args.depth c.args.analysed.now.contract.img.now c.args.at c.if-depth-eq0.true) (record { ran = still (raw _) refl refl; frame = idle _ _ })

pub gen_stmt-gen_let-requires : goal.gen_stmt-gen_let-requires
unfolding stmt_kind_of pick
gen_stmt-gen_let-requires t c = rw (at_kind c.args.depth c.args.analysed.now.contract.img.now c.args.at c.kind.result sLet c.if-depth-eq0.false c.kind.ensures.0 (ap stmt_kind_of c.in-32.is)) at c.requires

pub gen_stmt-gen_constrain-requires : goal.gen_stmt-gen_constrain-requires
unfolding stmt_kind_of pick
gen_stmt-gen_constrain-requires t c = rw (at_kind c.args.depth c.args.analysed.now.contract.img.now c.args.at c.kind.result sConstrain c.if-depth-eq0.false c.kind.ensures.0 (ap stmt_kind_of c.in-33.is)) at c.requires

pub gen_stmt-gen_assign-requires : goal.gen_stmt-gen_assign-requires
unfolding stmt_kind_of pick
gen_stmt-gen_assign-requires t c = rw (at_kind c.args.depth c.args.analysed.now.contract.img.now c.args.at c.kind.result sAssign c.if-depth-eq0.false c.kind.ensures.0 (ap stmt_kind_of c.in-34.is)) at c.requires

pub gen_stmt-gen_storage_write-requires : goal.gen_stmt-gen_storage_write-requires
unfolding stmt_kind_of pick
gen_stmt-gen_storage_write-requires t c = rw (at_kind c.args.depth c.args.analysed.now.contract.img.now c.args.at c.kind.result sStorage c.if-depth-eq0.false c.kind.ensures.0 (ap stmt_kind_of c.in-35.is)) at c.requires

pub gen_stmt-gen_mapping_write-requires : goal.gen_stmt-gen_mapping_write-requires
unfolding stmt_kind_of pick
gen_stmt-gen_mapping_write-requires t c = rw (at_kind c.args.depth c.args.analysed.now.contract.img.now c.args.at c.kind.result sMapping c.if-depth-eq0.false c.kind.ensures.0 (ap stmt_kind_of c.in-36.is)) at c.requires

pub gen_stmt-gen_if-requires : goal.gen_stmt-gen_if-requires
unfolding stmt_kind_of pick
gen_stmt-gen_if-requires t c = (omega (arith, c.if-depth-eq0.false), rw (at_kind c.args.depth c.args.analysed.now.contract.img.now c.args.at c.kind.result sIf c.if-depth-eq0.false c.kind.ensures.0 (ap stmt_kind_of c.in-37.is)) at c.requires)

pub gen_stmt-gen_while-requires : goal.gen_stmt-gen_while-requires
unfolding stmt_kind_of pick
gen_stmt-gen_while-requires t c = (omega (arith, c.if-depth-eq0.false), rw (at_kind c.args.depth c.args.analysed.now.contract.img.now c.args.at c.kind.result sWhile c.if-depth-eq0.false c.kind.ensures.0 (ap stmt_kind_of c.in-38.is)) at c.requires)

pub gen_stmt-gen_for-requires : goal.gen_stmt-gen_for-requires
unfolding stmt_kind_of pick
gen_stmt-gen_for-requires t c = (omega (arith, c.if-depth-eq0.false), rw (at_kind c.args.depth c.args.analysed.now.contract.img.now c.args.at c.kind.result sFor c.if-depth-eq0.false c.kind.ensures.0 (ap stmt_kind_of c.in-39.is)) at c.requires)

pub gen_stmt-gen_return-requires : goal.gen_stmt-gen_return-requires
unfolding stmt_kind_of pick
gen_stmt-gen_return-requires t c = rw (at_kind c.args.depth c.args.analysed.now.contract.img.now c.args.at c.kind.result sReturn c.if-depth-eq0.false c.kind.ensures.0 (ap stmt_kind_of c.in-40.is)) at c.requires

pub gen_stmt-gen_emit-requires : goal.gen_stmt-gen_emit-requires
unfolding stmt_kind_of pick
gen_stmt-gen_emit-requires t c = rw (at_kind c.args.depth c.args.analysed.now.contract.img.now c.args.at c.kind.result sEmit c.if-depth-eq0.false c.kind.ensures.0 (ap stmt_kind_of c.in-41.is)) at c.requires

pub gen_stmt-gen_just-requires : goal.gen_stmt-gen_just-requires
unfolding stmt_kind_of pick
gen_stmt-gen_just-requires t c = rw (at_kind c.args.depth c.args.analysed.now.contract.img.now c.args.at c.kind.result sExpr c.if-depth-eq0.false c.kind.ensures.0 (ap stmt_kind_of c.in-42.is)) at c.requires

pub gen_stmt-returns-in-32 : goal.gen_stmt-returns-in-32
unfolding stmt_kind_of pick
gen_stmt-returns-in-32 t c = rw (at_kind c.args.depth c.args.analysed.now.contract.img.now c.args.at c.kind.result sLet c.if-depth-eq0.false c.kind.ensures.0 (ap stmt_kind_of c.in-32.is)) c.gen_let.ensures

pub gen_stmt-returns-in-33 : goal.gen_stmt-returns-in-33
unfolding stmt_kind_of pick
gen_stmt-returns-in-33 t c = rw (at_kind c.args.depth c.args.analysed.now.contract.img.now c.args.at c.kind.result sConstrain c.if-depth-eq0.false c.kind.ensures.0 (ap stmt_kind_of c.in-33.is)) c.gen_constrain.ensures

pub gen_stmt-returns-in-34 : goal.gen_stmt-returns-in-34
unfolding stmt_kind_of pick
gen_stmt-returns-in-34 t c = rw (at_kind c.args.depth c.args.analysed.now.contract.img.now c.args.at c.kind.result sAssign c.if-depth-eq0.false c.kind.ensures.0 (ap stmt_kind_of c.in-34.is)) c.gen_assign.ensures

pub gen_stmt-returns-in-35 : goal.gen_stmt-returns-in-35
unfolding stmt_kind_of pick
gen_stmt-returns-in-35 t c = rw (at_kind c.args.depth c.args.analysed.now.contract.img.now c.args.at c.kind.result sStorage c.if-depth-eq0.false c.kind.ensures.0 (ap stmt_kind_of c.in-35.is)) c.gen_storage_write.ensures

pub gen_stmt-returns-in-36 : goal.gen_stmt-returns-in-36
unfolding stmt_kind_of pick
gen_stmt-returns-in-36 t c = rw (at_kind c.args.depth c.args.analysed.now.contract.img.now c.args.at c.kind.result sMapping c.if-depth-eq0.false c.kind.ensures.0 (ap stmt_kind_of c.in-36.is)) c.gen_mapping_write.ensures

pub gen_stmt-returns-in-37 : goal.gen_stmt-returns-in-37
unfolding stmt_kind_of pick
gen_stmt-returns-in-37 t c = rw (at_kind c.args.depth c.args.analysed.now.contract.img.now c.args.at c.kind.result sIf c.if-depth-eq0.false c.kind.ensures.0 (ap stmt_kind_of c.in-37.is)) c.gen_if.ensures

pub gen_stmt-returns-in-38 : goal.gen_stmt-returns-in-38
unfolding stmt_kind_of pick
gen_stmt-returns-in-38 t c = rw (at_kind c.args.depth c.args.analysed.now.contract.img.now c.args.at c.kind.result sWhile c.if-depth-eq0.false c.kind.ensures.0 (ap stmt_kind_of c.in-38.is)) c.gen_while.ensures

pub gen_stmt-returns-in-39 : goal.gen_stmt-returns-in-39
unfolding stmt_kind_of pick
gen_stmt-returns-in-39 t c = rw (at_kind c.args.depth c.args.analysed.now.contract.img.now c.args.at c.kind.result sFor c.if-depth-eq0.false c.kind.ensures.0 (ap stmt_kind_of c.in-39.is)) c.gen_for.ensures

pub gen_stmt-returns-in-40 : goal.gen_stmt-returns-in-40
unfolding stmt_kind_of pick
gen_stmt-returns-in-40 t c = rw (at_kind c.args.depth c.args.analysed.now.contract.img.now c.args.at c.kind.result sReturn c.if-depth-eq0.false c.kind.ensures.0 (ap stmt_kind_of c.in-40.is)) c.gen_return.ensures

pub gen_stmt-returns-in-41 : goal.gen_stmt-returns-in-41
unfolding stmt_kind_of pick
gen_stmt-returns-in-41 t c = rw (at_kind c.args.depth c.args.analysed.now.contract.img.now c.args.at c.kind.result sEmit c.if-depth-eq0.false c.kind.ensures.0 (ap stmt_kind_of c.in-41.is)) c.gen_emit.ensures

pub gen_stmt-returns-in-42 : goal.gen_stmt-returns-in-42
unfolding stmt_kind_of pick
gen_stmt-returns-in-42 t c = rw (at_kind c.args.depth c.args.analysed.now.contract.img.now c.args.at c.kind.result sExpr c.if-depth-eq0.false c.kind.ensures.0 (ap stmt_kind_of c.in-42.is)) c.gen_just.ensures

pub gen_stmt-returns-in_default : goal.gen_stmt-returns-in_default
unfolding steps.gen_stmt_lem stmt_as
gen_stmt-returns-in_default t c = rw (at_kind c.args.depth c.args.analysed.now.contract.img.now c.args.at c.kind.result sOther c.if-depth-eq0.false c.kind.ensures.0 (other c.kind.result c.in_default.in_default-own.rest.0.0.0.0.0.0.0.0.0.0.1 c.in_default.in_default-own.rest.0.0.0.0.0.0.0.0.0.1 c.in_default.in_default-own.rest.0.0.0.0.0.0.0.0.1 c.in_default.in_default-own.rest.0.0.0.0.0.0.0.1 c.in_default.in_default-own.rest.0.0.0.0.0.0.1 c.in_default.in_default-own.rest.0.0.0.0.0.1 c.in_default.in_default-own.rest.0.0.0.0.1 c.in_default.in_default-own.rest.0.0.0.1 c.in_default.in_default-own.rest.0.0.1 c.in_default.in_default-own.rest.0.1 c.in_default.in_default-own.rest.1)) (record { ran = still (raw _) refl refl; frame = idle _ _ })

pub gen_stmts-loop-p-init : goal.gen_stmts-loop-p-init
gen_stmts-loop-p-init t c = begins _ _ _ _ _ _ _ _

pub gen_stmts-gen_stmt-s-requires : goal.gen_stmts-gen_stmt-s-requires
gen_stmts-gen_stmt-s-requires t c = (omega arith, roomy _ _ _ _ _ _ _ _ c.args.analysed.now.contract.tabled.small c.requires.1 c.requires.0 c.loop-p.invariant c.loop-p-test.true)

pub gen_stmts-loop-p-smaller : goal.gen_stmts-loop-p-smaller
gen_stmts-loop-p-smaller t c = omega (arith, goes_on c.args.analysed.now.contract.img.now c.loop-p.p c.args.end c.loop-p-test.true c.requires.1, c.past-p.ensures.0)

pub gen_stmts-loop-p-preserved : goal.gen_stmts-loop-p-preserved
gen_stmts-loop-p-preserved t c = goes _ _ _ _ _ _ _ _ c.args.analysed.now.contract.tabled.small c.requires.1 c.loop-p.invariant c.loop-p-test.true c.past-p.ensures.0 c.gen_stmt-s.ensures (c.gen_stmt-s.auto.code, c.gen_stmt-s.auto.bytes) c.gen_stmt-s.auto.scope

pub gen_stmts-shape_of-code : goal.gen_stmts-shape_of-code
gen_stmts-shape_of-code t c = c.loop-p.invariant.room.0

pub gen_stmts-shape_of-bytes : goal.gen_stmts-shape_of-bytes
gen_stmts-shape_of-bytes t c = c.loop-p.invariant.room.1

pub gen_stmts-shape_of-scope : goal.gen_stmts-shape_of-scope
gen_stmts-shape_of-scope t c = c.loop-p.invariant.scope

pub gen_stmts-returns : goal.gen_stmts-returns
gen_stmts-returns t c = ends_all _ _ _ _ _ _ _ _ c.loop-p.invariant c.loop-p-test.false

pub gen_while-gen_stmts-b-requires : goal.gen_while-gen_stmts-b-requires
unfolding vars stmt_as
gen_while-gen_stmts-b-requires t c = (omega arith, (rw (c.body-p.ensures.0, c.past-q.ensures.0, c.past-list.ensures.0, c.body-cond.ensures.0) c.requires, c.past-q.ensures.1))

pub gen_while-overflow_sub-b : goal.gen_while-overflow_sub-b
gen_while-overflow_sub-b t c = omega (arith, c.gen_expr-v.ensures.grows, (c.emit-j.ensures.ran (contract_at c.args.analysed.now.contract.img.now) 0 true).grows, c.open_slot-a.ensures.reserved.grows, c.gen_stmts-b.ensures.ran.grows)

pub gen_while-shape_of-code : goal.gen_while-shape_of-code
gen_while-shape_of-code t c = c.land.auto.code ∙ c.emit-w.auto.code ∙ c.gen_stmts-b.auto.code ∙ c.emit-j.auto.code ∙ c.gen_expr-v.auto.code

pub gen_while-shape_of-bytes : goal.gen_while-shape_of-bytes
gen_while-shape_of-bytes t c = c.land.auto.bytes ∙ c.emit-w.auto.bytes ∙ c.gen_stmts-b.auto.bytes ∙ c.emit-j.auto.bytes ∙ c.gen_expr-v.auto.bytes

pub gen_while-shape_of-scope : goal.gen_while-shape_of-scope
gen_while-shape_of-scope t c = c.gen_stmts-b.auto.scope

pub gen_while-returns : goal.gen_while-returns
unfolding steps.gen_stmt_lem stmt_as vars
gen_while-returns t c = record {
  ran = rw c.emit-w.ensures.next (circled (raw _) _ _ _ (rw c.body-cond.ensures.0 at c.gen_expr-v.ensures) (c.emit-j.ensures.ran _ _ true) c.open_slot-a.ensures.reserved
      (rw (c.body-p.ensures.0, c.past-q.ensures.0, c.past-list.ensures.0, c.body-cond.ensures.0, c.open_slot-a.ensures.next) at c.gen_stmts-b.ensures.ran)
      (c.emit-w.ensures.any _ _ (raw_word _ c.args.at false (record { op = op.Jmp; rd = 0; rs1 = 0; rs2 = 0; imm = Imm.neg (c.gen_stmts-b.result.n - c.args.st.n) }) _ (sym c.backward.ensures)))
      c.emit-w.ensures.count (c.land.ensures.stored _ _));
  frame = rw (c.body-p.ensures.0, c.past-q.ensures.0, c.past-list.ensures.0, c.body-cond.ensures.0) at c.gen_stmts-b.ensures.frame;
}
