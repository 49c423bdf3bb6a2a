-- in_functions meets its contract.
use Rattle.ambiguous.proofs.Walk.{functions_all, functions_over, functions_here, functions_next}
use mathlib.Core.Path.{sym, ◌∙◌}
use Rattle.ambiguous.proofs.in_functions.Goals as goal

pub loop-i-init : goal.loop-i-init
loop-i-init c = functions_all c.args.analysed.now.contract.img.now

pub returns-in-Some : goal.returns-in-Some
returns-in-Some c = functions_here c.args.analysed.now.contract.img.now c.loop-i.i (rw c.function_count-i-end.ensures at c.loop-i-test.true) (rw (c.past-in-loop-i.ensures.0, c.past-flag.ensures.0, c.past.ensures.0, c.second-params.ensures, c.function_place.ensures (rw c.function_count-i-end.ensures at c.loop-i-test.true)) at c.in-Some.ensures) ∙ sym c.loop-i.invariant

pub loop-i-preserved : goal.loop-i-preserved
loop-i-preserved c = c.loop-i.invariant ∙ functions_next c.args.analysed.now.contract.img.now c.loop-i.i (rw c.function_count-i-end.ensures at c.loop-i-test.true) c.in_default.is (rw (c.past-in-loop-i.ensures.0, c.past-flag.ensures.0, c.past.ensures.0, c.second-params.ensures, c.function_place.ensures (rw c.function_count-i-end.ensures at c.loop-i-test.true)) at c.in_body.ensures)

pub returns : goal.returns
returns c = functions_over c.args.analysed.now.contract.img.now c.loop-i.i (rw c.function_count-i-end.ensures at c.loop-i-test.false) ∙ sym c.loop-i.invariant
