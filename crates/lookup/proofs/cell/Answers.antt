-- cell meets its contract.
use lib.ListN.{get_or-eq_default}
use mathlib.Core.Path.{sym}
use Rattle.lookup.proofs.cell.Goals as goal

pub returns-else-i-a : goal.returns-else-i-a
returns-else-i-a c = sym (get_or-eq_default c.args.a.now 0 c.if-i-a.false)
