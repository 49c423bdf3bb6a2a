-- `reg_at` meets its contract.
use native.Mathlib.Omega.{arith}
use Rattle.expr.proofs.Values.{byte_there, reg_past}
use Rattle.expr.proofs.steps.reg_at.Goals as goal

pub returns-then-i-count : goal.returns-then-i-count
returns-then-i-count c = byte_there c.args.vals.now c.args.count c.args.i _ c.from.ensures (omega (arith, c.from.ensures)) c.if-i-count.true

pub returns-else-i-count : goal.returns-else-i-count
returns-else-i-count c = reg_past c.args.vals.now c.args.count c.args.i c.if-i-count.false
