-- `push_numbers` meets its contract.
use Rattle.expr.specs.Runs.{pushes, numbers, begins, numbers_go, numbers_end}
use native.Mathlib.Omega.{arith}
use Rattle.expr.proofs.runs.push_numbers.Goals as goal

pub loop-j-init : goal.loop-j-init
loop-j-init c = begins pushes c.args.n c.args.end 1 c.args.code.now numbers

pub overflow_add-i : goal.overflow_add-i
overflow_add-i c = omega (arith, c.loop-j-test.true, c.loop-j.invariant.place)

pub bounds-code-j : goal.bounds-code-j
bounds-code-j c = omega (arith, c.loop-j-test.true, c.min-stop.ensures, c.loop-j.invariant.room)

pub loop-j-preserved : goal.loop-j-preserved
loop-j-preserved c = numbers_go pushes c.args.n c.args.end 1 c.args.code.now c.loop-j.invariant (omega (arith, c.loop-j-test.true, c.min-stop.ensures)) c.word.ensures

pub shape_of-code : goal.shape_of-code
shape_of-code c = c.loop-j.invariant.room

pub returns : goal.returns
returns c = numbers_end pushes c.args.n c.args.end 1 c.args.code.now c.loop-j.invariant (omega (arith, c.loop-j-test.false, c.min-stop.ensures))
