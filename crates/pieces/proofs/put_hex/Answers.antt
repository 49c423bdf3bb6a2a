-- `pieces::put_hex` meets its contract: from the last digit to the first.
use native.Mathlib.Omega.{arith}
use Rattle.pieces.specs.Hex.{hexing_start, hexing_more, hexing_length, hexing_end}
use Rattle.pieces.proofs.put_hex.Goals as goal

pub loop-i-init : goal.loop-i-init
loop-i-init c = hexing_start _ _ _ _

pub overflow_add-out : goal.overflow_add-out
overflow_add-out c = omega (arith, c.loop-i.invariant.within, c.requires, c.loop-i-test.true)

pub bounds-out-n : goal.bounds-out-n
bounds-out-n c = omega (arith, hexing_length c.loop-i.invariant, c.loop-i.invariant.within, c.requires, c.loop-i-test.true)

pub loop-i-preserved : goal.loop-i-preserved
loop-i-preserved c = hexing_more _ c.loop-i.invariant (omega (arith, c.loop-i-test.true)) c.glyph.ensures

pub shape_of-out : goal.shape_of-out
shape_of-out c = hexing_length c.loop-i.invariant

pub returns : goal.returns
returns c = hexing_end c.loop-i.invariant (omega (arith, c.loop-i-test.false))
