-- first_ambiguous meets its contract.
use mathlib.Core.Path.{◌∙◌, sym}
use Rattle.ambiguous.proofs.Walk.{no_ambiguous}
use Rattle.rules.specs.Read.{contract_at}
use borrow.Author.Tests.{eqb-true}
use Rattle.ambiguous.proofs.first_ambiguous.Goals as goal

pub returns-then-all_noted : goal.returns-then-all_noted
returns-then-all_noted c = sym (c.args.analysed.now.known.1.clear (eqb-true _ _ (sym c.all_noted.ensures ∙ c.if-all_noted.true)))

pub returns-then-all_agree : goal.returns-then-all_agree
returns-then-all_agree c = no_ambiguous (contract_at c.args.analysed.now.contract.img.now) (c.all_agree.ensures c.if-all_agree.true)
