-- `wording::arg_type` meets its contract: one piece behind another.
use mathlib.Core.List.{◌++◌}
use native.Mathlib.Omega.{arith}
use lib.ListN.{length-append}
use Rattle.rules.specs.Bytes.{name_at}
use Rattle.rules.specs.Texts.{bytes, decimal}
use Rattle.pieces.specs.Lays.{lays_then}
use Rattle.wording.proofs.arg_type.Goals as goal

pub put-k-requires : goal.put-k-requires
unfolding bytes
put-k-requires c = omega (arith, c.requires, length-append (decimal c.args.i) (bytes " type mismatch in " ++ name_at c.args.img.now c.args.f))

pub put_number-l-requires : goal.put_number-l-requires
unfolding bytes
put_number-l-requires c = omega (arith, c.requires, length-append (decimal c.args.i) (bytes " type mismatch in " ++ name_at c.args.img.now c.args.f), c.put-k.ensures.past, c.put-k.auto.out)

pub put-m-requires : goal.put-m-requires
unfolding bytes
put-m-requires c = omega (arith, c.requires, length-append (decimal c.args.i) (bytes " type mismatch in " ++ name_at c.args.img.now c.args.f), c.put-k.ensures.past, c.put-k.auto.out, c.put_number-l.ensures.past, c.put_number-l.auto.out)

pub put_name-requires : goal.put_name-requires
unfolding bytes
put_name-requires c = omega (arith, c.requires, length-append (decimal c.args.i) (bytes " type mismatch in " ++ name_at c.args.img.now c.args.f), c.put-k.ensures.past, c.put-k.auto.out, c.put_number-l.ensures.past, c.put_number-l.auto.out, c.put-m.ensures.past, c.put-m.auto.out)

pub returns : goal.returns
unfolding bytes
returns c = lays_then c.put-k.ensures (lays_then c.put_number-l.ensures (lays_then c.put-m.ensures c.put_name.ensures))
