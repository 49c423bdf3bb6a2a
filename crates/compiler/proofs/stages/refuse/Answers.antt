-- `compiler::stages::refuse` meets its contract: zeros throughout are what is cleared.
use mathlib.Core.Path.{sym, ◌∙◌}
use Rattle.lent.specs.Rest.{all_zero}
use Rattle.compiler.proofs.stages.refuse.Goals as goal

pub returns : goal.returns
returns c = (c.of.ensures, c.fill.ensures.after (λ y e. e) ∙ sym (all_zero _))
