-- `keep` meets its contract.
use Rattle.expr.proofs.Values.{more_first, more_second, more_later}
use mathlib.Core.Path.{refl}
use Rattle.expr.proofs.steps.keep.Goals as goal

pub returns-then-i-eq0 : goal.returns-then-i-eq0
returns-then-i-eq0 c = (more_first c.args.v c.args.st c.if-i-eq0.true, refl)

pub returns-then-i-eq1 : goal.returns-then-i-eq1
returns-then-i-eq1 c = (more_second c.args.v c.args.st c.if-i-eq1.true, refl)

pub returns : goal.returns
returns c = (more_later c.args.v c.args.st c.if-i-eq0.false c.if-i-eq1.false, refl)
