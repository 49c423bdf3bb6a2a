-- `lines::lines` meets its contract: the lines of the first k words lie from the start on.
use Rattle.std.proofs.Common.{arith}
use Rattle.pieces.specs.Lays.{lays_length}
use Rattle.lines.specs.Lengths.{length_lines, none_yet, more, whole}
use Rattle.lines.proofs.lines.Goals as goal

pub loop-k-init : goal.loop-k-init
loop-k-init c = (omega arith, (omega arith, none_yet _ _ _))

pub put_line-n-requires : goal.put_line-n-requires
put_line-n-requires c = omega (
  arith,
  lays_length c.loop-k.invariant.1.1,
  c.loop-k.invariant.1.1.past,
  length_lines c.args.first c.args.words.now c.loop-k.k,
  c.if-k-room.true,
)

pub loop-k-preserved : goal.loop-k-preserved
loop-k-preserved c = (omega (arith, c.loop-k-test.true), (omega (arith, c.if-k-room.true), more _ _ _ c.wrapping_add_u64-i.ensures.value c.eight_in.ensures c.loop-k.invariant.1.1 c.put_line-n.ensures))

pub shape_of-out-else-k-room : goal.shape_of-out-else-k-room
shape_of-out-else-k-room c = lays_length c.loop-k.invariant.1.1

pub returns-else-k-room : goal.returns-else-k-room
returns-else-k-room c =
    whole _ _ _ (omega (arith, c.loop-k.invariant.0, c.loop-k.invariant.1.0, c.loop-k-test.true, c.if-k-room.false)) c.loop-k.invariant.1.1

pub shape_of-out-after-loop-k : goal.shape_of-out-after-loop-k
shape_of-out-after-loop-k c = lays_length c.loop-k.invariant.1.1

pub returns-after-loop-k : goal.returns-after-loop-k
returns-after-loop-k c = whole _ _ _ (omega (arith, c.loop-k.invariant.0, c.loop-k.invariant.1.0, c.loop-k-test.false)) c.loop-k.invariant.1.1
