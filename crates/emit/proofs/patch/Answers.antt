-- `patch` meets its contract.
use mathlib.Core.Path.{◌∙◌}
use Rattle.emit.specs.Sinks.{sinks, laid_one}
use Rattle.emit.proofs.patch.Goals as goal

pub returns : goal.returns
returns c = (λ j. sinks (c.lay.ensures j) (c.lay_word.ensures j)) ∙ laid_one _ _ _
