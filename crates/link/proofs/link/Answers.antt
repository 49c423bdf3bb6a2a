-- `link::link` meets its contract, by the laws of Turns.
use mathlib.Core.Path.{refl, ap, ◌∙◌}
use mathlib.Core.List.{List}
use Prim.Native.Nat.{ℕ}
use native.Mathlib.Omega.{arith}
use lib.ListN.{length-set}
use Rattle.rules.specs.Lent.{over}
use Rattle.link.specs.Linked.{linked_from}
use Rattle.link.proofs.Turns.{long, more, skip, taken}
use Rattle.link.proofs.link.Goals as goal

pub loop-i-init : goal.loop-i-init
unfolding linked_from
loop-i-init c = skip c.next_open-i.ensures (record { within = omega arith; room = omega (arith, c.min-end.ensures); same = refl })

pub bounds-code-i : goal.bounds-code-i
bounds-code-i c = omega (arith, long c.loop-i.invariant, c.loop-i.invariant.room, c.loop-i-test.true)

pub bounds-code-i-in-loop-i : goal.bounds-code-i-in-loop-i
bounds-code-i-in-loop-i c = omega (arith, long c.loop-i.invariant, c.loop-i.invariant.room, c.loop-i-test.true)

pub next_open-i-requires-in-loop-i : goal.next_open-i-requires-in-loop-i
next_open-i-requires-in-loop-i c = (c.requires, simp length-set (omega (arith, long c.loop-i.invariant, c.loop-i.invariant.room, c.loop-i-test.true)))

pub loop-i-preserved : goal.loop-i-preserved
loop-i-preserved c = skip c.next_open-i-in-loop-i.ensures
    (record { within = omega (arith, c.loop-i-test.true); room = c.loop-i.invariant.room; same = more c.loop-i.invariant _ c.linked_word.ensures c.loop-i-test.true })

pub shape_of-code : goal.shape_of-code
shape_of-code c = long c.loop-i.invariant

pub returns : goal.returns
returns c = c.loop-i.invariant.same ∙ ap (λ (l : List ℕ). over (linked_from c.args.firsts.now 0 l) c.args.code.now) (taken c.args.code.now c.args.n c.loop-i.i (omega (arith, c.loop-i.invariant.within, c.loop-i-test.false, c.min-end.ensures)))
