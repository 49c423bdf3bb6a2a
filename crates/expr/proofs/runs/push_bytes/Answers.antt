-- `push_bytes` meets its contract.
use Rattle.expr.specs.Runs.{pushes, bytes, begins, bytes_go, bytes_end, bytes_last}
use native.Mathlib.Omega.{arith}
use mathlib.Core.Path.{◌∙◌}
use Rattle.expr.proofs.runs.push_bytes.Goals as goal

pub loop-j-init : goal.loop-j-init
loop-j-init c = begins pushes c.args.n c.args.end 1 c.args.bytes.now bytes

pub overflow_add-i : goal.overflow_add-i
overflow_add-i c = omega (arith, c.loop-j-test.true, c.loop-j.invariant.place)

pub store_word-requires : goal.store_word-requires
store_word-requires c = omega (arith, c.loop-j-test.true, c.min-stop.ensures, c.loop-j.invariant.room)

pub loop-j-preserved : goal.loop-j-preserved
loop-j-preserved c = bytes_go pushes c.args.n c.args.end 1 c.args.bytes.now c.loop-j.invariant (omega (arith, c.loop-j-test.true, c.min-stop.ensures)) c.word.ensures c.store_word.ensures

pub overflow_add-i-then-j-end : goal.overflow_add-i-then-j-end
overflow_add-i-then-j-end c = omega (arith, c.if-j-end.true, c.loop-j.invariant.place)

pub shape_of-bytes-then-j-end : goal.shape_of-bytes-then-j-end
shape_of-bytes-then-j-end c = c.lay_word.auto.bytes ∙ c.loop-j.invariant.room

pub returns-then-j-end : goal.returns-then-j-end
returns-then-j-end c = bytes_last pushes c.args.n c.args.end 1 c.args.bytes.now c.loop-j.invariant (omega (arith, c.loop-j-test.false, c.min-stop.ensures)) c.if-j-end.true c.word-then-j-end.ensures c.lay_word.ensures

pub shape_of-bytes-else-j-end : goal.shape_of-bytes-else-j-end
shape_of-bytes-else-j-end c = c.loop-j.invariant.room

pub returns-else-j-end : goal.returns-else-j-end
returns-else-j-end c = bytes_end pushes c.args.n c.args.end 1 c.args.bytes.now c.loop-j.invariant c.if-j-end.false
