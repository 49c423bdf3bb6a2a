-- in_return meets its contract.
use Rattle.ambiguous.proofs.Trees.{return_there, return_not}
use Rattle.rules.specs.Ambiguous.{in_stmt_lem}
use Rattle.rules.specs.Read.{expr_at, stmt_at_lem}
use Rattle.ambiguous.proofs.in_return.Goals as goal

pub returns-then-value-past : goal.returns-then-value-past
unfolding in_stmt_lem
returns-then-value-past c = rw (return_there c.args.analysed.now.contract.img.now c.args.at c.body-value.ensures.0 c.past.ensures.0 (expr_at c.args.d c.args.analysed.now.contract.img.now) (stmt_at_lem c.args.d c.args.analysed.now.contract.img.now) c.if-value-past.true) (rw c.body-value.ensures.0 at c.in_expr.ensures)

pub returns-else-value-past : goal.returns-else-value-past
unfolding in_stmt_lem
returns-else-value-past c = rw (return_not c.args.analysed.now.contract.img.now c.args.at c.body-value.ensures.0 c.past.ensures.0 (expr_at c.args.d c.args.analysed.now.contract.img.now) (stmt_at_lem c.args.d c.args.analysed.now.contract.img.now) c.if-value-past.false)
