-- `word` meets its contract.
use Rattle.emit.specs.Ran.{or_zero, word_of}
use mathlib.Core.Path.{sym, ap, ◌∙◌}
use Rattle.emit.proofs.word.Goals as goal

pub returns-in-Some : goal.returns-in-Some
unfolding or_zero word_of
returns-in-Some c = sym (ap or_zero c.in-Some.is) ∙ ap or_zero c.encode.ensures

pub returns-in-None : goal.returns-in-None
unfolding or_zero word_of
returns-in-None c = sym (ap or_zero c.in-None.is) ∙ ap or_zero c.encode.ensures
