-- byte meets its contract.
use native.Mathlib.Omega.{arith}
use mathlib.Core.Path.{sym}
use lib.ListN.{get_or-eq_default}
use Rattle.records.proofs.byte.Goals as goal

pub returns-then-i-img : goal.returns-then-i-img
returns-then-i-img c = (c.from.ensures, omega (arith, c.from.ensures, c.type_inv.img c.args.i))

pub returns-else-i-img : goal.returns-else-i-img
returns-else-i-img c = (sym (get_or-eq_default c.args.img.now 0 c.if-i-img.false), omega arith)
