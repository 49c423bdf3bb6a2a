-- slot_of meets its contract.
use Prim.Native.Nat.{◌+◌, ◌-◌}
use mathlib.Core.Path.{◌≡◌}
use native.Mathlib.Omega.{arith}
use Rattle.ambiguous.proofs.Agreed.{starts, passes_by, free_slot, own_slot, no_slot}
use Rattle.ambiguous.proofs.agree.slot_of.Goals as goal

pub loop-init : goal.loop-init
loop-init c = starts c.args.seen.now c.args.key

pub returns-then-seen-h-eq0 : goal.returns-then-seen-h-eq0
returns-then-seen-h-eq0 c = free_slot c.args.seen.now c.args.key (509 - c.loop.counter) c.loop.h (omega (arith, c.loop-test.true)) c.loop.invariant c.if-seen-h-eq0.true

pub returns-then-seen-h : goal.returns-then-seen-h
returns-then-seen-h c = own_slot c.args.seen.now c.args.key (509 - c.loop.counter) c.loop.h (omega (arith, c.loop-test.true)) c.loop.invariant c.if-seen-h.true

pub loop-preserved : goal.loop-preserved
loop-preserved c =
    let fewer : 509 - c.loop.counter - 1 ≡ 509 - (c.loop.counter + 1) = omega arith in
    rw fewer at (passes_by c.args.seen.now c.args.key (509 - c.loop.counter) c.loop.h (omega (arith, c.loop-test.true)) c.loop.invariant c.if-seen-h-eq0.false c.if-seen-h.false)

pub returns : goal.returns
returns c = no_slot c.args.seen.now c.args.key
