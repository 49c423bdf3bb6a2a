-- `gen_big` meets its contract.
use Rattle.expr.proofs.Chain.{big_number}
use Rattle.expr.proofs.steps.gen_big.Goals as goal

pub returns : goal.returns
returns c = big_number _ _ _ _ _ _ _ _ _ _ c.requires c.alloc_reg-r.ensures c.alloc_reg-s.ensures c.alloc_reg-t.ensures c.emit-a.ensures c.gen_chunks-b.ensures c.with.ensures
