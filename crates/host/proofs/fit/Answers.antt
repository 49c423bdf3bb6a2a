-- `host::fit` meets its contract.
use mathlib.Core.Path.{refl}
use native.Mathlib.Omega.{arith}
use Rattle.host.proofs.fit.Goals as goal

pub returns-then-a-ne0 : goal.returns-then-a-ne0
returns-then-a-ne0 c = record { same = λ h. refl; short = λ z h. absurd (c.if-a-ne0.true z) }

pub returns-then-room-a : goal.returns-then-room-a
returns-then-room-a c = record { same = λ h. absurd (omega (arith, c.if-room-a.true, h c.if-a-ne0.false)); short = λ z h. refl }

pub returns : goal.returns
returns c = record { same = λ h. refl; short = λ z h. absurd (omega (arith, c.if-room-a.false, h)) }
