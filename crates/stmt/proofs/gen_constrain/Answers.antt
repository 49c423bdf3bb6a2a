-- gen_constrain does the steps of its statement.
use mathlib.Core.Bool.{false}
use Rattle.rules.specs.Read.{stmt_as}
use Rattle.emit.specs.Steps.{gen_stmt_lem}
use Rattle.emit.specs.Ran.{raw}
use Rattle.emit.specs.Refines.{seq}
use Rattle.stmt.proofs.Laws.{ends}
use Rattle.stmt.proofs.Names.{idle}
use Rattle.stmt.proofs.gen_constrain.Goals as goal

pub returns : goal.returns
unfolding gen_stmt_lem stmt_as
returns c = record {
  ran = seq (raw _) _ (rw c.body-value.ensures.0 at c.gen_expr-v.ensures) (seq (raw _) _ (c.emit-a.ensures.ran _ _ false) (ends (raw _) c.emit-a.result c.with.ensures));
  frame = idle _ _;
}
