-- step is the end of a For's body.
use mathlib.Core.Path.{refl}
use mathlib.Core.Bool.{false}
use Rattle.emit.specs.Ran.{raw}
use Rattle.emit.specs.Refines.{seq, still, says}
use Rattle.stmt.specs.Runs.{stepping}
use Rattle.stmt.proofs.step.Goals as goal

pub returns : goal.returns
unfolding stepping
returns c = record { ran = λ C h. seq (raw C) _ (c.alloc_reg-o.ensures.ran C _) (seq (raw C) _ (says (raw C) _ _ (c.emit-l.ensures.ran C _ false) (c.emit.ensures.ran C _ false)) (still (raw C) refl refl)) }
