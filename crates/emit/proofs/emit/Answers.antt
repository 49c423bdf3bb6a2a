-- `emit` meets its contract.
use Rattle.emit.specs.Leaves.{raw_word, cuts}
use Rattle.rules.specs.Machine.{bits_of}
use mathlib.Core.Path.{refl, ◌∙◌}
use Rattle.emit.proofs.emit.Goals as goal

pub returns : goal.returns
unfolding bits_of
returns c = record { ran = λ C p t. c.put.ensures.ran C _ (c.word.ensures ∙ cuts _ _ _ _ _ ∙ raw_word C p t _ _ refl); any = λ C w e. c.put.ensures.ran C w (c.word.ensures ∙ cuts _ _ _ _ _ ∙ e); count = c.put.ensures.count; next = c.put.ensures.next; reg = c.put.ensures.reg }
