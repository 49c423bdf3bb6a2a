-- `gen_int` meets its contract.
use Rattle.expr.proofs.Walk.{int_small, int_big}
use Rattle.expr.proofs.gen_int.Goals as goal

pub returns-then-v-le2147483647 : goal.returns-then-v-le2147483647
returns-then-v-le2147483647 c = λ s f. int_small c.args.img.now s _ _ _ _ _ f _ _ c.if-v-le2147483647.true c.int-v.ensures c.emit_new.ensures

pub returns : goal.returns
returns c = λ s f. int_big c.args.img.now s _ c.args.st _ _ _ f _ _ c.int-v.ensures c.gen_big.ensures
