-- `wording::types` meets its contract: one piece behind another.
use mathlib.Core.List.{◌++◌}
use native.Mathlib.Omega.{arith}
use lib.ListN.{length-append}
use Rattle.rules.specs.Texts.{bytes, type_text}
use Rattle.lookup.specs.Answers.{ty_of}
use Rattle.pieces.specs.Lays.{lays_then}
use Rattle.wording.proofs.types.Goals as goal

pub put-k-requires : goal.put-k-requires
unfolding bytes
put-k-requires c = omega (arith, c.requires, length-append c.args.s.now (type_text (ty_of c.args.img.now c.args.a) ++ (bytes ", got " ++ type_text (ty_of c.args.img.now c.args.b))), length-append (type_text (ty_of c.args.img.now c.args.a)) (bytes ", got " ++ type_text (ty_of c.args.img.now c.args.b)))

pub put_type-l-requires : goal.put_type-l-requires
unfolding bytes
put_type-l-requires c = omega (arith, c.requires, length-append c.args.s.now (type_text (ty_of c.args.img.now c.args.a) ++ (bytes ", got " ++ type_text (ty_of c.args.img.now c.args.b))), length-append (type_text (ty_of c.args.img.now c.args.a)) (bytes ", got " ++ type_text (ty_of c.args.img.now c.args.b)), c.put-k.ensures.past, c.put-k.auto.out)

pub put-m-requires : goal.put-m-requires
unfolding bytes
put-m-requires c = omega (arith, c.requires, length-append c.args.s.now (type_text (ty_of c.args.img.now c.args.a) ++ (bytes ", got " ++ type_text (ty_of c.args.img.now c.args.b))), length-append (type_text (ty_of c.args.img.now c.args.a)) (bytes ", got " ++ type_text (ty_of c.args.img.now c.args.b)), c.put-k.ensures.past, c.put-k.auto.out, c.put_type-l.ensures.past, c.put_type-l.auto.out)

pub put_type-requires : goal.put_type-requires
unfolding bytes
put_type-requires c = omega (arith, c.requires, length-append c.args.s.now (type_text (ty_of c.args.img.now c.args.a) ++ (bytes ", got " ++ type_text (ty_of c.args.img.now c.args.b))), length-append (type_text (ty_of c.args.img.now c.args.a)) (bytes ", got " ++ type_text (ty_of c.args.img.now c.args.b)), c.put-k.ensures.past, c.put-k.auto.out, c.put_type-l.ensures.past, c.put_type-l.auto.out, c.put-m.ensures.past, c.put-m.auto.out)

pub returns : goal.returns
unfolding bytes
returns c = lays_then c.put-k.ensures (lays_then c.put_type-l.ensures (lays_then c.put-m.ensures c.put_type.ensures))
