-- `wording::no_field` meets its contract: one piece behind another.
use mathlib.Core.List.{◌++◌}
use native.Mathlib.Omega.{arith}
use lib.ListN.{length-append}
use Rattle.rules.specs.Bytes.{name_at}
use Rattle.rules.specs.Texts.{bytes}
use Rattle.pieces.specs.Lays.{lays_then}
use Rattle.wording.proofs.no_field.Goals as goal

pub put-k-requires : goal.put-k-requires
unfolding bytes
put-k-requires c = omega (arith, c.requires, length-append (name_at c.args.img.now c.args.s) (bytes " has no field " ++ name_at c.args.img.now c.args.x))

pub put_name-l-requires : goal.put_name-l-requires
unfolding bytes
put_name-l-requires c = omega (arith, c.requires, length-append (name_at c.args.img.now c.args.s) (bytes " has no field " ++ name_at c.args.img.now c.args.x), c.put-k.ensures.past, c.put-k.auto.out)

pub put-m-requires : goal.put-m-requires
unfolding bytes
put-m-requires c = omega (arith, c.requires, length-append (name_at c.args.img.now c.args.s) (bytes " has no field " ++ name_at c.args.img.now c.args.x), c.put-k.ensures.past, c.put-k.auto.out, c.put_name-l.ensures.past, c.put_name-l.auto.out)

pub put_name-requires : goal.put_name-requires
unfolding bytes
put_name-requires c = omega (arith, c.requires, length-append (name_at c.args.img.now c.args.s) (bytes " has no field " ++ name_at c.args.img.now c.args.x), c.put-k.ensures.past, c.put-k.auto.out, c.put_name-l.ensures.past, c.put_name-l.auto.out, c.put-m.ensures.past, c.put-m.auto.out)

pub returns : goal.returns
unfolding bytes
returns c = lays_then c.put-k.ensures (lays_then c.put_name-l.ensures (lays_then c.put-m.ensures c.put_name.ensures))
