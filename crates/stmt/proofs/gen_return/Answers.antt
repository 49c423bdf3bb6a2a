-- gen_return does the steps of its statement.
use mathlib.Core.Path.{◌∙◌}
use mathlib.Core.Bool.{false}
use Rattle.rules.specs.Read.{expr_at, stmt_at_lem}
use Rattle.emit.specs.Steps.{gen_stmt_lem}
use Rattle.emit.specs.Ran.{raw}
use Rattle.emit.specs.Refines.{seq, renewed, says}
use Rattle.stmt.proofs.Laws.{ends, takes}
use Rattle.stmt.proofs.Names.{idle}
use Rattle.stmt.proofs.Trees.{value_some, value_none}
use Rattle.stmt.proofs.gen_return.Goals as goal

pub shape_of-code-then-value-end : goal.shape_of-code-then-value-end
shape_of-code-then-value-end c = c.leave-l.auto.code ∙ c.gen_expr-v.auto.code ∙ c.emit_new-t.auto.code

pub shape_of-bytes-then-value-end : goal.shape_of-bytes-then-value-end
shape_of-bytes-then-value-end c = c.leave-l.auto.bytes ∙ c.gen_expr-v.auto.bytes ∙ c.emit_new-t.auto.bytes

pub returns-then-value-end : goal.returns-then-value-end
unfolding gen_stmt_lem
returns-then-value-end c = rw (value_some (expr_at c.args.d c.args.analysed.now.contract.img.now) (stmt_at_lem c.args.d c.args.analysed.now.contract.img.now) c.args.analysed.now.contract.img.now c.args.at (rw (c.body-value.ensures.0, c.past-end.ensures.0) at c.if-value-end.true)) (record {
  ran = renewed (raw _) _ _ _ (c.emit_new-t.ensures.ran _)
      (seq (raw _) _ (rw (c.body-value.ensures.0, c.emit_new-t.ensures.next) at c.gen_expr-v.ensures)
      (seq (raw _) _ (c.leave-l.ensures.ran _ _) (ends (raw _) c.leave-l.result c.with.ensures)));
  frame = idle _ _;
})

pub shape_of-code : goal.shape_of-code
shape_of-code c = c.leave-l-2.auto.code ∙ c.emit-w.auto.code ∙ c.emit_new-t.auto.code

pub shape_of-bytes : goal.shape_of-bytes
shape_of-bytes c = c.leave-l-2.auto.bytes ∙ c.emit-w.auto.bytes ∙ c.emit_new-t.auto.bytes

pub returns : goal.returns
unfolding gen_stmt_lem
returns c = rw (value_none (expr_at c.args.d c.args.analysed.now.contract.img.now) (stmt_at_lem c.args.d c.args.analysed.now.contract.img.now) c.args.analysed.now.contract.img.now c.args.at (rw (c.body-value.ensures.0, c.past-end.ensures.0) at c.if-value-end.false)) (record {
  ran = renewed (raw _) _ _ _ (c.emit_new-t.ensures.ran _)
      (seq (raw _) _ (takes _ c.alloc_reg-z.ensures c.emit_new-t.ensures.next _ _)
      (seq (raw _) _ (says (raw _) _ _ (c.emit-w.ensures.ran _ _ false) (c.leave-l-2.ensures.ran _ _)) (ends (raw _) c.leave-l-2.result c.with-2.ensures)));
  frame = idle _ _;
})
