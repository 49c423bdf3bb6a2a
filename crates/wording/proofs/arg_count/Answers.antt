-- `wording::arg_count` meets its contract: one piece behind another.
use mathlib.Core.List.{◌++◌}
use native.Mathlib.Omega.{arith}
use lib.ListN.{length-append}
use Rattle.rules.specs.Bytes.{name_at}
use Rattle.rules.specs.Texts.{bytes, decimal}
use Rattle.pieces.specs.Lays.{lays_then}
use Rattle.wording.proofs.arg_count.Goals as goal

pub put-i-requires : goal.put-i-requires
unfolding bytes
put-i-requires c = omega (arith, c.requires, length-append (name_at c.args.img.now c.args.f) (bytes " expects " ++ (decimal c.args.a ++ (bytes " args, got " ++ decimal c.args.b))), length-append (decimal c.args.a) (bytes " args, got " ++ decimal c.args.b))

pub put_name-j-requires : goal.put_name-j-requires
unfolding bytes
put_name-j-requires c = omega (arith, c.requires, length-append (name_at c.args.img.now c.args.f) (bytes " expects " ++ (decimal c.args.a ++ (bytes " args, got " ++ decimal c.args.b))), length-append (decimal c.args.a) (bytes " args, got " ++ decimal c.args.b), c.put-i.ensures.past, c.put-i.auto.out)

pub put-k-requires : goal.put-k-requires
unfolding bytes
put-k-requires c = omega (arith, c.requires, length-append (name_at c.args.img.now c.args.f) (bytes " expects " ++ (decimal c.args.a ++ (bytes " args, got " ++ decimal c.args.b))), length-append (decimal c.args.a) (bytes " args, got " ++ decimal c.args.b), c.put-i.ensures.past, c.put-i.auto.out, c.put_name-j.ensures.past, c.put_name-j.auto.out)

pub put_number-l-requires : goal.put_number-l-requires
unfolding bytes
put_number-l-requires c = omega (arith, c.requires, length-append (name_at c.args.img.now c.args.f) (bytes " expects " ++ (decimal c.args.a ++ (bytes " args, got " ++ decimal c.args.b))), length-append (decimal c.args.a) (bytes " args, got " ++ decimal c.args.b), c.put-i.ensures.past, c.put-i.auto.out, c.put_name-j.ensures.past, c.put_name-j.auto.out, c.put-k.ensures.past, c.put-k.auto.out)

pub put-m-requires : goal.put-m-requires
unfolding bytes
put-m-requires c = omega (arith, c.requires, length-append (name_at c.args.img.now c.args.f) (bytes " expects " ++ (decimal c.args.a ++ (bytes " args, got " ++ decimal c.args.b))), length-append (decimal c.args.a) (bytes " args, got " ++ decimal c.args.b), c.put-i.ensures.past, c.put-i.auto.out, c.put_name-j.ensures.past, c.put_name-j.auto.out, c.put-k.ensures.past, c.put-k.auto.out, c.put_number-l.ensures.past, c.put_number-l.auto.out)

pub put_number-requires : goal.put_number-requires
unfolding bytes
put_number-requires c = omega (arith, c.requires, length-append (name_at c.args.img.now c.args.f) (bytes " expects " ++ (decimal c.args.a ++ (bytes " args, got " ++ decimal c.args.b))), length-append (decimal c.args.a) (bytes " args, got " ++ decimal c.args.b), c.put-i.ensures.past, c.put-i.auto.out, c.put_name-j.ensures.past, c.put_name-j.auto.out, c.put-k.ensures.past, c.put-k.auto.out, c.put_number-l.ensures.past, c.put_number-l.auto.out, c.put-m.ensures.past, c.put-m.auto.out)

pub returns : goal.returns
unfolding bytes
returns c = lays_then c.put-i.ensures (lays_then c.put_name-j.ensures (lays_then c.put-k.ensures (lays_then c.put_number-l.ensures (lays_then c.put-m.ensures c.put_number.ensures))))
