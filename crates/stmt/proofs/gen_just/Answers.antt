-- gen_just does the steps of its statement.
use Rattle.rules.specs.Read.{stmt_as}
use Rattle.emit.specs.Steps.{gen_stmt_lem}
use Rattle.emit.specs.Ran.{raw}
use Rattle.emit.specs.Refines.{seq}
use Rattle.stmt.proofs.Laws.{ends}
use Rattle.stmt.proofs.Names.{idle}
use Rattle.stmt.proofs.gen_just.Goals as goal

pub returns : goal.returns
unfolding gen_stmt_lem stmt_as
returns c = record {
  ran = seq (raw _) _ (rw c.body-value.ensures.0 at c.gen_expr-v.ensures) (ends (raw _) c.gen_expr-v.result c.with.ensures);
  frame = idle _ _;
}
