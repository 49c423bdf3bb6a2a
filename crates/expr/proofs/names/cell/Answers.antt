-- `cell` meets its contract.
use lib.ListN.{get_or-eq_default}
use mathlib.Core.Path.{sym}
use Rattle.expr.proofs.names.cell.Goals as goal

-- src/names.rt:42:1
pub returns-else-i-a : goal.returns-else-i-a
returns-else-i-a c = sym (get_or-eq_default c.args.a.now 0 c.if-i-a.false)
