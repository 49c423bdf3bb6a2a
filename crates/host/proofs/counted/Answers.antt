-- `host::counted` meets its contract: one more than the target.
use mathlib.Core.Path.{refl, ap}
use native.Mathlib.Numerals.{add-one}
use Rattle.rules.specs.Bytes.{pick}
use Rattle.rules.specs.Refusal.{answer}
use Rattle.host.proofs.counted.Goals as goal

pub returns-then-w : goal.returns-then-w
unfolding pick
returns-then-w c = rw c.if-w.true (ap (answer c.args.w.refusal c.args.w.place) (add-one c.args.w.target))

pub returns : goal.returns
unfolding pick
returns c = rw c.if-w.false refl
