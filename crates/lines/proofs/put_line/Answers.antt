-- `lines::put_line` meets its contract: one piece behind another.
use Rattle.std.proofs.Common.{arith}
use Rattle.isa.specs.Word.{top_of}
use Rattle.rules.specs.Texts.{bytes}
use Rattle.rules.specs.Lines.{line_of}
use Rattle.bounds.proofs.Texts.{decimal_few}
use Rattle.pieces.specs.Lays.{lays_then}
use Rattle.pieces.specs.Hex.{length_hex}
use Rattle.lines.specs.Lengths.{length_flag}
use Rattle.lines.proofs.put_line.Goals as goal

pub put_number-a-requires : goal.put_number-a-requires
put_number-a-requires c = omega (arith, c.requires, decimal_few c.args.i)

pub put-b-requires : goal.put-b-requires
put-b-requires c = omega (arith, c.requires, decimal_few c.args.i, c.put_number-a.ensures.past, c.put_number-a.auto.out)

pub put_hex-c-requires : goal.put_hex-c-requires
put_hex-c-requires c = omega (arith, c.requires, decimal_few c.args.i, c.put_number-a.ensures.past, c.put_number-a.auto.out, c.put-b.ensures.past, c.put-b.auto.out)

pub put_flag-d-requires : goal.put_flag-d-requires
put_flag-d-requires c = omega (arith, c.requires, decimal_few c.args.i, c.put_number-a.ensures.past, c.put_number-a.auto.out, c.put-b.ensures.past, c.put-b.auto.out, c.put_hex-c.ensures.past, c.put_hex-c.auto.out, length_hex 16 c.args.w)

pub put-requires : goal.put-requires
put-requires c = omega (arith, c.requires, decimal_few c.args.i, c.put_number-a.ensures.past, c.put_number-a.auto.out, c.put-b.ensures.past, c.put-b.auto.out, c.put_hex-c.ensures.past, c.put_hex-c.auto.out, length_hex 16 c.args.w, c.put_flag-d.ensures.past, c.put_flag-d.auto.out, length_flag (top_of c.args.w))

pub returns : goal.returns
unfolding line_of bytes
returns c = lays_then c.put_number-a.ensures (lays_then c.put-b.ensures (lays_then c.put_hex-c.ensures (lays_then c.put_flag-d.ensures c.put.ensures)))
