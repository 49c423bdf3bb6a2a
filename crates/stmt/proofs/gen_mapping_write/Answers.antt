-- gen_mapping_write does the steps of its statement.
use Rattle.rules.specs.Read.{stmt_as}
use Rattle.emit.specs.Steps.{gen_stmt_lem}
use Rattle.emit.specs.Ran.{raw}
use Rattle.emit.specs.Refines.{seq}
use Rattle.stmt.specs.Runs.{store_at}
use Rattle.stmt.proofs.Laws.{of_45}
use Rattle.stmt.proofs.Names.{idle}
use Rattle.stmt.proofs.gen_mapping_write.Goals as goal

pub returns : goal.returns
unfolding gen_stmt_lem stmt_as store_at
returns c = rw (← c.body-name.ensures.0, ← c.past-key.ensures.0, ← c.past-value.ensures.0, c.with.ensures) (record {
  ran = seq (raw _) _ (c.storage_slot-k.ensures.ran _ _ _ (of_45 _ _).0 (of_45 _ _).1.0 (of_45 _ _).1.1)
      (seq (raw _) _ (rw c.storage_slot-k.ensures.next at c.gen_expr-a.ensures)
      (seq (raw _) _ c.gen_expr-v.ensures (c.store_at-w.ensures.ran _ _)));
  frame = idle _ _;
})
