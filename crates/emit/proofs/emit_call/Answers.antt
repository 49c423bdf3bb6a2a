-- `emit_call` meets its contract.
use Rattle.emit.specs.Ran.{raw, call_of}
use mathlib.Core.Path.{ap, ◌∙◌}
use Rattle.emit.proofs.emit_call.Goals as goal

pub returns : goal.returns
unfolding raw
returns c = record { ran = λ C p x e. c.put.ensures.ran C _ (c.open_call.ensures ∙ ap call_of e); next = c.put.ensures.next; reg = c.put.ensures.reg }
