-- `wording::named` meets its contract: one piece behind another.
use native.Mathlib.Omega.{arith}
use lib.ListN.{length-append}
use Rattle.rules.specs.Bytes.{name_at}
use Rattle.pieces.specs.Lays.{lays_then}
use Rattle.wording.proofs.named.Goals as goal

pub put-a-requires : goal.put-a-requires
put-a-requires c = omega (arith, c.requires, length-append c.args.s.now (name_at c.args.img.now c.args.x))

pub put_name-requires : goal.put_name-requires
put_name-requires c = omega (arith, c.requires, length-append c.args.s.now (name_at c.args.img.now c.args.x), c.put-a.ensures.past, c.put-a.auto.out)

pub returns : goal.returns
returns c = lays_then c.put-a.ensures c.put_name.ensures
