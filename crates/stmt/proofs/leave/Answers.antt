-- leave ends a function.
use mathlib.Core.Bool.{false}
use Rattle.emit.specs.Ran.{raw}
use Rattle.emit.specs.Refines.{says}
use Rattle.stmt.proofs.leave.Goals as goal

pub returns : goal.returns
returns c = record { ran = λ C p. says (raw C) _ _ (c.emit-a.ensures.ran C p false) (says (raw C) _ _ (c.emit-b.ensures.ran C p false) (c.emit.ensures.ran C p false)) }
