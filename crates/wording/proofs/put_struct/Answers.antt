-- `wording::put_struct` meets its contract: one piece behind another.
use native.Mathlib.Omega.{arith}
use lib.ListN.{length-append}
use Rattle.rules.specs.Bytes.{name_at}
use Rattle.rules.specs.Texts.{bytes}
use Rattle.pieces.specs.Lays.{lays_then}
use Rattle.wording.proofs.put_struct.Goals as goal

pub put-a-requires : goal.put-a-requires
unfolding bytes
put-a-requires c = omega (arith, c.requires, length-append (name_at c.args.img.now c.args.x) (bytes "\")"))

pub put_name-b-requires : goal.put_name-b-requires
unfolding bytes
put_name-b-requires c = omega (arith, c.requires, length-append (name_at c.args.img.now c.args.x) (bytes "\")"), c.put-a.ensures.past, c.put-a.auto.out)

pub put-requires : goal.put-requires
unfolding bytes
put-requires c = omega (arith, c.requires, length-append (name_at c.args.img.now c.args.x) (bytes "\")"), c.put-a.ensures.past, c.put-a.auto.out, c.put_name-b.ensures.past, c.put_name-b.auto.out)

pub returns : goal.returns
unfolding bytes
returns c = lays_then c.put-a.ensures (lays_then c.put_name-b.ensures c.put.ensures)
