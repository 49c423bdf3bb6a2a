-- `wording::init_type` meets its contract: one piece behind another.
use native.Mathlib.Omega.{arith}
use lib.ListN.{length-append}
use Rattle.rules.specs.Bytes.{name_at}
use Rattle.rules.specs.Texts.{bytes}
use Rattle.pieces.specs.Lays.{lays_then}
use Rattle.wording.proofs.init_type.Goals as goal

pub put-k-requires : goal.put-k-requires
unfolding bytes
put-k-requires c = omega (arith, c.requires, length-append (name_at c.args.img.now c.args.x) (bytes " type mismatch"))

pub put_name-l-requires : goal.put_name-l-requires
unfolding bytes
put_name-l-requires c = omega (arith, c.requires, length-append (name_at c.args.img.now c.args.x) (bytes " type mismatch"), c.put-k.ensures.past, c.put-k.auto.out)

pub put-requires : goal.put-requires
unfolding bytes
put-requires c = omega (arith, c.requires, length-append (name_at c.args.img.now c.args.x) (bytes " type mismatch"), c.put-k.ensures.past, c.put-k.auto.out, c.put_name-l.ensures.past, c.put_name-l.auto.out)

pub returns : goal.returns
unfolding bytes
returns c = lays_then c.put-k.ensures (lays_then c.put_name-l.ensures c.put.ensures)
