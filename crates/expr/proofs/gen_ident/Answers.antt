-- `gen_ident` meets its contract.
use Rattle.expr.proofs.Walk.{ident}
use Rattle.expr.proofs.gen_ident.Goals as goal

-- src/lib.rt:65:1
pub returns : goal.returns
returns c = λ R s f. ident c.args.img.now c.args.scope.now R _ _ s f _ _ c.body.ensures.0 c.local.ensures
