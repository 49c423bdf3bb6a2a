-- `close_call` meets its contract.
use Rattle.expr.proofs.Chain.{closes_call}
use mathlib.Core.Path.{◌∙◌}
use Rattle.expr.proofs.steps.close_call.Goals as goal

pub shape_of-code : goal.shape_of-code
shape_of-code c = c.pop_down-e.auto.code ∙ c.emit_new-d.auto.code ∙ c.emit_call-c.auto.code ∙ c.push_all-a.auto.code

pub shape_of-bytes : goal.shape_of-bytes
shape_of-bytes c = c.pop_down-e.auto.bytes ∙ c.emit_new-d.auto.bytes ∙ c.emit_call-c.auto.bytes ∙ c.push_all-a.auto.bytes

pub returns : goal.returns
returns c = closes_call _ _ _ _ _ _ _ _ _ _ _ _ _ _ c.push_all-a.ensures c.emit_call-c.ensures c.with-b.ensures c.emit_new-d.ensures c.pop_down-e.ensures c.less_one.ensures c.with.ensures
