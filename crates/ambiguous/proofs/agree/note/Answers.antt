-- note meets its contract.
use Rattle.ambiguous.proofs.Agreed.{put_there, was_there}
use Rattle.records.specs.Names.{never}
use lib.ListN.{length-set}
use native.Mathlib.Omega.{arith}
use Rattle.ambiguous.proofs.agree.note.Goals as goal

pub overflow_mul-v : goal.overflow_mul-v
overflow_mul-v c = omega (arith, (c.slot_of-s.ensures _ c.in-Some.is).below)

pub overflow_add-v : goal.overflow_add-v
overflow_add-v c = omega (arith, (c.slot_of-s.ensures _ c.in-Some.is).below)

pub offset_bounds-seen-h : goal.offset_bounds-seen-h
offset_bounds-seen-h c = omega (arith, (c.slot_of-s.ensures _ c.in-Some.is).below)

pub bounds-seen-h : goal.bounds-seen-h
bounds-seen-h c = omega (arith, (c.slot_of-s.ensures _ c.in-Some.is).below)

pub overflow_mul-seen : goal.overflow_mul-seen
overflow_mul-seen c = omega (arith, (c.slot_of-s.ensures _ c.in-Some.is).below)

pub offset_bounds-seen-h-then-v-eq0 : goal.offset_bounds-seen-h-then-v-eq0
offset_bounds-seen-h-then-v-eq0 c = omega (arith, (c.slot_of-s.ensures _ c.in-Some.is).below)

pub bounds-seen-h-then-v-eq0 : goal.bounds-seen-h-then-v-eq0
bounds-seen-h-then-v-eq0 c = omega (arith, (c.slot_of-s.ensures _ c.in-Some.is).below)

pub overflow_mul-seen-then-v-eq0 : goal.overflow_mul-seen-then-v-eq0
overflow_mul-seen-then-v-eq0 c = omega (arith, (c.slot_of-s.ensures _ c.in-Some.is).below)

pub overflow_add-seen-then-v-eq0 : goal.overflow_add-seen-then-v-eq0
overflow_add-seen-then-v-eq0 c = omega (arith, (c.slot_of-s.ensures _ c.in-Some.is).below)

pub offset_bounds-seen-h-then-v-eq0-2 : goal.offset_bounds-seen-h-then-v-eq0-2
offset_bounds-seen-h-then-v-eq0-2 c = omega (arith, (c.slot_of-s.ensures _ c.in-Some.is).below)

pub bounds-seen-h-then-v-eq0-2 : goal.bounds-seen-h-then-v-eq0-2
bounds-seen-h-then-v-eq0-2 c = simp length-set (omega (arith, (c.slot_of-s.ensures _ c.in-Some.is).below))

pub shape_of-seen-then-v-eq0 : goal.shape_of-seen-then-v-eq0
shape_of-seen-then-v-eq0 c = simp length-set

pub returns-then-v-eq0 : goal.returns-then-v-eq0
returns-then-v-eq0 c = λ _. put_there c.args.seen.now c.args.key c.args.n _ (c.slot_of-s.ensures _ c.in-Some.is) c.requires.1 c.if-v-eq0.true

pub returns-else-v-eq0 : goal.returns-else-v-eq0
returns-else-v-eq0 c = λ e. was_there c.args.seen.now c.args.key c.args.n _ (c.slot_of-s.ensures _ c.in-Some.is) c.if-v-eq0.false e

pub returns-in-None : goal.returns-in-None
returns-in-None c = λ e. never e
