-- gen_emit does the steps of its statement.
use mathlib.Core.Path.{◌∙◌}
use mathlib.Core.Bool.{false}
use native.Mathlib.Omega.{arith}
use Rattle.rules.specs.Read.{stmt_as}
use Rattle.emit.specs.Steps.{gen_stmt_lem}
use Rattle.emit.specs.Ran.{raw}
use Rattle.emit.specs.Refines.{seq}
use Rattle.stmt.proofs.Laws.{ends}
use Rattle.stmt.proofs.Names.{idle}
use Rattle.stmt.proofs.Lists.{goes_on, logs_begin, logs_go, logs_end}
use Rattle.stmt.proofs.gen_emit.Goals as goal

pub loop-p-init : goal.loop-p-init
loop-p-init c = logs_begin _ _ _ _ _ _ _ _ _

pub loop-p-smaller : goal.loop-p-smaller
loop-p-smaller c = omega (arith, goes_on c.args.analysed.now.contract.img.now c.loop-p.p c.past-end.result c.loop-p-test.true c.past-end.ensures.1, c.past-p.ensures.0)

pub loop-p-preserved : goal.loop-p-preserved
loop-p-preserved c = logs_go _ _ _ _ _ _ _ _ _ c.args.analysed.now.contract.tabled.small c.past-end.ensures.1 c.loop-p.invariant c.loop-p-test.true c.past-p.ensures.0 c.gen_expr-v.ensures (c.emit-s.ensures.ran _ _ false) c.emit-s.ensures.next (c.emit-s.auto.code ∙ c.gen_expr-v.auto.code, c.emit-s.auto.bytes ∙ c.gen_expr-v.auto.bytes)

pub shape_of-code : goal.shape_of-code
shape_of-code c = c.loop-p.invariant.room.0

pub shape_of-bytes : goal.shape_of-bytes
shape_of-bytes c = c.loop-p.invariant.room.1

pub returns : goal.returns
unfolding gen_stmt_lem stmt_as
returns c = record {
  ran = seq (raw _) _ (rw (c.body-p.ensures.0, c.past-end.ensures.0, c.past-list.ensures.0, c.body.ensures.0) at (logs_end _ _ _ _ _ _ _ _ _ c.loop-p.invariant c.loop-p-test.false)) (ends (raw _) c.loop-p.s c.with.ensures);
  frame = idle _ _;
}
