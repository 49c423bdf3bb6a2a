-- is_ambiguous meets its contract.
use Rattle.ambiguous.proofs.Clashes.{or_or_else, remains, begins, hits, passes, ends}
use Rattle.fields.specs.Steps.{past_all}
use Rattle.ambiguous.specs.Spots.{unsure}
use Rattle.rules.specs.Read.{contract_at}
use mathlib.Core.Path.{sym, ap, ◌∙◌}
use Rattle.ambiguous.proofs.apart.is_ambiguous.Goals as goal

pub loop-i-init : goal.loop-i-init
loop-i-init c = begins c.args.contract.now.img.now _

pub returns-then-differ : goal.returns-then-differ
returns-then-differ c = sym (c.loop-i.invariant ∙ ap (remains c.loop-i.first) c.position_at-here.ensures.is ∙ hits c.loop-i.first c.position_at-here.result _ (sym c.differ.ensures ∙ c.if-differ.true)) ∙ ap (unsure (contract_at c.args.contract.now.img.now)) c.name-name.ensures

pub loop-i-preserved : goal.loop-i-preserved
loop-i-preserved c = rw (c.or-first.ensures, or_or_else) (c.loop-i.invariant ∙ ap (remains c.loop-i.first) c.position_at-here.ensures.is ∙ passes c.loop-i.first c.position_at-here.result _ (sym c.differ.ensures ∙ c.if-differ.false))

pub returns : goal.returns
returns c = sym (c.loop-i.invariant ∙ ends c.loop-i.first _ (past_all c.args.contract.now.img.now _ c.loop-i.i (rw c.struct_count-i-end.ensures at c.loop-i-test.false))) ∙ ap (unsure (contract_at c.args.contract.now.img.now)) c.name-name.ensures
