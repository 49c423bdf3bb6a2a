-- gen_assign does the steps of its statement.
use mathlib.Core.Bool.{false}
use Rattle.rules.specs.Read.{stmt_as}
use Rattle.emit.specs.Steps.{gen_stmt_lem}
use Rattle.emit.specs.Ran.{raw}
use Rattle.emit.specs.Refines.{seq}
use Rattle.stmt.proofs.Laws.{ends, of_43}
use Rattle.stmt.proofs.Names.{idle}
use Rattle.stmt.proofs.gen_assign.Goals as goal

pub returns : goal.returns
unfolding gen_stmt_lem stmt_as
returns c = rw (← c.body-name.ensures.0, ← c.past-value.ensures.0) (record {
  ran = seq (raw _) _ c.gen_expr-v.ensures
      (seq (raw _) _ (c.local-x.ensures.ran _ _ _ (of_43 _ _).0 (of_43 _ _).1.0 (of_43 _ _).1.1)
      (seq (raw _) _ (c.emit-a.ensures.ran _ _ false) (ends (raw _) c.emit-a.result c.with.ensures)));
  frame = idle _ _;
})
