-- `lent::lay_word` meets its contract: past the last whole word there is room for a part of one, and behind it for none.
use mathlib.Core.Path.{sym}
use Prim.Native.Nat.{◌*◌}
use native.Mathlib.Omega.{arith}
use Rattle.lent.specs.Over.{over_at_past}
use Rattle.lent.proofs.lay_word.Goals as goal

pub returns-else-i-whole-2 : goal.returns-else-i-whole-2
returns-else-i-whole-2 c = sym (over_at_past (8 * c.args.i) _ _ (omega (arith, c.if-i-whole-2.false, c.if-i-whole.false)))
