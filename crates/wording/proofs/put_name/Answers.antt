-- `wording::put_name` meets its contract.
use mathlib.Core.Path.{ap}
use native.Mathlib.Omega.{arith}
use lib.ListN.{length}
use Rattle.wording.proofs.put_name.Goals as goal

pub put-requires : goal.put-requires
put-requires c = omega (arith, c.requires, ap length c.name.ensures)

pub returns : goal.returns
returns c = rw c.name.ensures at c.put.ensures
