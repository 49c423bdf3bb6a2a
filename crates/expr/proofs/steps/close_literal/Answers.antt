-- `close_literal` meets its contract.
use Rattle.expr.proofs.Chain.{closes_literal}
use mathlib.Core.Path.{refl, ◌∙◌}
use Rattle.expr.proofs.steps.close_literal.Goals as goal

pub shape_of-code : goal.shape_of-code
shape_of-code c = c.emit_new.auto.code ∙ c.emit-b.auto.code ∙ c.emit-l.auto.code ∙ c.store_all-a.auto.code

pub shape_of-bytes : goal.shape_of-bytes
shape_of-bytes c = c.emit_new.auto.bytes ∙ c.emit-b.auto.bytes ∙ c.emit-l.auto.bytes ∙ c.store_all-a.auto.bytes

pub returns : goal.returns
returns c = closes_literal _ _ _ _ _ _ _ _ _ _ _ _ _ _ _ c.store_all-a.ensures c.alloc_reg-z.ensures c.emit-l.ensures refl c.emit-b.ensures c.heap-h.ensures c.with-e.ensures c.emit_new.ensures
