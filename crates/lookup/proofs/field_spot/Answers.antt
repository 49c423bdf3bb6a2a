-- field_spot meets its contract.
use Prim.Native.Nat.{◌-◌}
use native.Mathlib.Omega.{arith}
use Rattle.lookup.specs.Places.{places_zero, places_end}
use Rattle.lookup.proofs.Spots.{walk_first, walk_on, walked_at, walked_none}
use Rattle.lookup.proofs.field_spot.Goals as goal
use Rattle.lookup.proofs.field_spot.Goals.{then-loop-n-test+else-p-end, else-loop-n-test}

pub loop-n-init : goal.loop-n-init
loop-n-init c = rw (c.body-p.ensures.0, c.past-end.ensures.0) (walk_first _ _ _)

pub loop-n-smaller : goal.loop-n-smaller
loop-n-smaller c = omega (arith, c.loop-n-test.true)

pub loop-n-preserved : goal.loop-n-preserved
loop-n-preserved c = rw c.past-p.ensures.0 (walk_on c.args.img.now c.args.l c.args.x.now c.past-end.result c.loop-n.p c.loop-n.n c.loop-n.first c.loop-n.last c.loop-n.invariant c.loop-n-test.true c.if-p-end.true (rw c.body.ensures.0 at c.is_name-is.ensures) c.first_of-first.ensures c.last_of-last.ensures)

pub returns-then-first-eq64 : goal.returns-then-first-eq64
returns-then-first-eq64 c = walked_none c.args.img.now c.args.l c.args.x.now c.past-end.result c.loop-n.p c.loop-n.n c.loop-n.first c.loop-n.last c.loop-n.invariant (elim c.loop-n-test.branch [ then-loop-n-test+else-p-end w ↦ places_end c.args.img.now (64 - c.loop-n.n) c.loop-n.p c.past-end.result w.if-p-end.false | else-loop-n-test w ↦ places_zero c.args.img.now (64 - c.loop-n.n) c.loop-n.p c.past-end.result (omega (arith, w.loop-n-test.false)) ]) c.if-first-eq64.true

pub returns-else-first-eq64 : goal.returns-else-first-eq64
returns-else-first-eq64 c = walked_at c.args.img.now c.args.l c.args.x.now c.past-end.result c.loop-n.p c.loop-n.n c.loop-n.first c.loop-n.last c.loop-n.invariant (elim c.loop-n-test.branch [ then-loop-n-test+else-p-end w ↦ places_end c.args.img.now (64 - c.loop-n.n) c.loop-n.p c.past-end.result w.if-p-end.false | else-loop-n-test w ↦ places_zero c.args.img.now (64 - c.loop-n.n) c.loop-n.p c.past-end.result (omega (arith, w.loop-n-test.false)) ]) c.if-first-eq64.false
