-- main_index meets its contract.
use mathlib.Core.Path.{sym, ◌∙◌}
use native.Mathlib.Omega.{arith}
use Rattle.codegen.proofs.Mains.{none_yet, next, all_taken}
use Rattle.codegen.proofs.main_index.Goals as goal

pub loop-k-init : goal.loop-k-init
loop-k-init c = sym (none_yet c.args.contract.now.img.now)

pub loop-k-preserved : goal.loop-k-preserved
loop-k-preserved c = next c.args.contract.now.img.now _ _ _ _ _ (omega (arith, c.loop-k-test.true, c.function_count-k-end.ensures)) (c.function_place-f.ensures (omega (arith, c.loop-k-test.true, c.function_count-k-end.ensures))) c.is_main.ensures c.loop-k.invariant c.newer-found.ensures

pub returns : goal.returns
returns c = c.loop-k.invariant ∙ all_taken c.args.contract.now.img.now _ (omega (arith, c.loop-k-test.false, c.function_count-k-end.ensures))
