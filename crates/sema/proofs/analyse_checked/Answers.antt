-- analyse_checked meets its contract.
use Rattle.lookup.specs.Results.{handed_on}
use Rattle.rules.specs.Read.{contract_at}
use Rattle.notes.specs.Wrote.{refused, wrote}
use Rattle.lookup.specs.Answers.{checked_of}
use Rattle.sema.proofs.Functions.{from_bad, from_done, from_next, from_start, names_fit, notes_done, notes_next, notes_start}
use mathlib.Core.Path.{◌∙◌, refl, sym}
use native.Mathlib.Omega.{arith}
use Rattle.sema.proofs.analyse_checked.Goals as goal

pub loop-i-init : goal.loop-i-init
loop-i-init c = (refl, (from_start c.args.contract.now.img.now, notes_start c.args.contract.now.img.now _))

pub analyze_function-requires : goal.analyze_function-requires
analyze_function-requires c = rw (c.function_place.ensures (omega (arith, c.loop-i-test.true, c.function_count-i-end.ensures))) (omega (arith, names_fit c.args.contract.now.img.now c.requires.0 c.loop-i.i (omega (arith, c.loop-i-test.true, c.function_count-i-end.ensures)), c.loop-i.invariant.0, c.requires.1))

pub loop-i-preserved : goal.loop-i-preserved
unfolding checked_of
loop-i-preserved c = (c.in_ok-analyze_function.ensures.1.0 ∙ c.loop-i.invariant.0, (c.loop-i.invariant.1.0 ∙ from_next c.args.contract.now.img.now c.loop-i.i (omega (arith, c.loop-i-test.true, c.function_count-i-end.ensures)) (rw (c.function_place.ensures (omega (arith, c.loop-i-test.true, c.function_count-i-end.ensures))) at c.in_ok-analyze_function.ensures.0), c.loop-i.invariant.1.1 ∙ notes_next c.args.contract.now.img.now _ c.loop-i.i (omega (arith, c.loop-i-test.true, c.function_count-i-end.ensures)) ((rw (c.function_place.ensures (omega (arith, c.loop-i-test.true, c.function_count-i-end.ensures))) at c.in_ok-analyze_function.ensures.1.1).all _ refl)))

pub returns-in_err-analyze_function : goal.returns-in_err-analyze_function
unfolding checked_of
returns-in_err-analyze_function c = rw (handed_on _ _ c.from_residual.ensures.1) ((from_bad c.args.contract.now.img.now c.loop-i.i (omega (arith, c.loop-i-test.true, c.function_count-i-end.ensures)) (rw (c.function_place.ensures (omega (arith, c.loop-i-test.true, c.function_count-i-end.ensures))) at c.in_err-analyze_function.ensures.0) ∙ sym c.loop-i.invariant.1.0, refused (contract_at c.args.contract.now.img.now) _ _ refl))

pub returns : goal.returns
unfolding checked_of
returns c = (from_done c.args.contract.now.img.now c.loop-i.i (omega (arith, c.loop-i-test.false, c.function_count-i-end.ensures)) ∙ sym c.loop-i.invariant.1.0, wrote (contract_at c.args.contract.now.img.now) _ (sym (c.loop-i.invariant.1.1 ∙ notes_done c.args.contract.now.img.now _ c.loop-i.i (omega (arith, c.loop-i-test.false, c.function_count-i-end.ensures)))))
