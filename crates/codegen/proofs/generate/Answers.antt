-- generate meets its contract.
use mathlib.Core.Path.{refl, ◌∙◌}
use native.Mathlib.Omega.{arith}
use borrow.Author.Rules.{rules}
use Rattle.codegen.proofs.Firsts.{at_most}
use Rattle.codegen.proofs.Whole.{no_main, all}
use Rattle.rules.specs.Read.{contract_at}
use Rattle.codegen.proofs.generate.Goals as goal

pub returns-then-main-eq-NONE : goal.returns-then-main-eq-NONE
returns-then-main-eq-NONE c = no_main _ c.args.analysed.now.contract.img.now c.main_index-main.ensures c.if-main-eq-NONE.true (c.fail.ensures.failed.first refl).0 (c.fail.ensures.failed.first refl).1

pub gen_functions-r-requires : goal.gen_functions-r-requires
gen_functions-r-requires c = (c.requires.0, (c.requires.1.1, search rules))

pub place_calls-requires : goal.place_calls-requires
place_calls-requires c = omega (arith, at_most c.args.analysed.now.contract.img.now, c.function_count.ensures, c.gen_functions-r.auto.firsts)

pub shape_of-code : goal.shape_of-code
shape_of-code c = c.place_calls.auto.code ∙ c.gen_functions-r.auto.code ∙ c.gen_opening-opened.auto.code

pub shape_of-bytes : goal.shape_of-bytes
shape_of-bytes c = c.place_calls.auto.bytes ∙ c.gen_functions-r.auto.bytes ∙ c.gen_opening-opened.auto.bytes

pub shape_of-scope : goal.shape_of-scope
shape_of-scope c = c.gen_functions-r.auto.scope

pub returns : goal.returns
returns c = all _ c.args.analysed.now.contract.img.now c.requires.0 c.requires.1.0 (c.gen_opening-opened.ensures.ran (contract_at c.args.analysed.now.contract.img.now) c.main_index-main.ensures) c.gen_functions-r.ensures (rw (c.function_count.ensures) at c.place_calls.ensures) c.main_index-main.ensures c.if-main-eq-NONE.false
