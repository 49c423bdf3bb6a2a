-- `why::function_of` meets its contract.
use mathlib.Core.Path.{refl}
use native.Mathlib.Omega.{arith}
use Rattle.why.proofs.function_of.Goals as goal

pub loop-k-init : goal.loop-k-init
loop-k-init c = (omega arith, (λ z. z, λ z. absurd (z refl)))

pub returns-then-want-firsts : goal.returns-then-want-firsts
returns-then-want-firsts c = record { within = c.loop-k.invariant.1.0; least = c.loop-k.invariant.1.1; most = λ _. c.if-want-firsts.true }

pub loop-k-preserved : goal.loop-k-preserved
loop-k-preserved c = (omega (arith, c.loop-k-test.true), (λ _. c.loop-k-test.true, λ _. c.if-want-firsts.false))

pub returns : goal.returns
returns c = record { within = c.loop-k.invariant.1.0; least = c.loop-k.invariant.1.1; most = λ l. absurd (omega (arith, l, c.loop-k-test.false)) }
