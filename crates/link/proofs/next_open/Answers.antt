-- `link::next_open` meets its contract: in both loops the words so far are closed.
use native.Mathlib.Omega.{arith}
use Rattle.isa.specs.Ruled.{is_opcode}
use Rattle.link.specs.Closed.{none_yet, pass, next}
use Rattle.link.proofs.next_open.Goals as goal

pub loop-i-init : goal.loop-i-init
loop-i-init c = none_yet c.requires.1.0

pub loop-i-preserved : goal.loop-i-preserved
loop-i-preserved c = pass c.loop-i.invariant 16 (omega arith) (c.some_open.ensures c.if-not-some_open.true)

pub loop-i-2-init : goal.loop-i-2-init
loop-i-2-init c = c.loop-i.invariant

pub loop-i-2-preserved : goal.loop-i-2-preserved
loop-i-2-preserved c = next c.loop-i-2.invariant (omega (arith, c.loop-i-2-test.true)) (is_opcode _ c.requires.0 _ (omega arith) c.fact.ensures c.if-fact.true)

pub returns-else-fact : goal.returns-else-fact
returns-else-fact c = c.loop-i-2.invariant

pub returns-after-loop-i-2 : goal.returns-after-loop-i-2
returns-after-loop-i-2 c = c.loop-i-2.invariant
