-- same_few meets its contract.
use lib.ListN.{get_or}
use native.Mathlib.Omega.{arith}
use Rattle.records.specs.Names.{apart, agree}
use Rattle.records.proofs.Eights.{more}
use Rattle.records.proofs.same_few.Goals as goal

pub loop-i-init : goal.loop-i-init
loop-i-init c = λ k h. absurd (omega arith)

pub bounds-a-i : goal.bounds-a-i
bounds-a-i c = omega arith

pub bounds-b-i : goal.bounds-b-i
bounds-b-i c = omega arith

pub returns-then-a-i : goal.returns-then-a-i
returns-then-a-i c = apart c.args.a.now c.args.b.now (λ l. get_or l c.loop-i.i 0) c.if-a-i.true

pub loop-i-preserved : goal.loop-i-preserved
loop-i-preserved c = more c.args.a.now c.args.b.now c.loop-i.i c.loop-i.invariant c.if-a-i.false

pub returns : goal.returns
returns c = agree c.args.a.now c.args.b.now c.requires (λ k h. c.loop-i.invariant k (omega arith))
