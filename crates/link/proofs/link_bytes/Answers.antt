-- `link::link_bytes` meets its contract: after i turns the first i words are linked.
use mathlib.Core.Path.{refl, ap, ◌∙◌}
use Prim.Native.Nat.{ℕ}
use native.Mathlib.Nat.{le_antisymm}
use native.Mathlib.Omega.{arith}
use Rattle.rules.specs.Lent.{over, spread}
use Rattle.lent.specs.Words.{bytes_of}
use Rattle.link.specs.Linked.{linked, linked_from}
use Rattle.link.specs.Words.{first_words, long, more, skip}
use borrow.Author.Rules.{rules}
use Rattle.link.proofs.link_bytes.Goals as goal

pub loop-i-init : goal.loop-i-init
unfolding first_words linked_from spread
loop-i-init c = skip (λ k. search rules) c.next_open_in-i.ensures (record { within = omega arith; room = c.requires.1; same = refl })

pub read_word-w-requires : goal.read_word-w-requires
read_word-w-requires c = omega (arith, long c.loop-i.invariant, c.loop-i.invariant.room, c.loop-i-test.true)

pub store_word-requires : goal.store_word-requires
store_word-requires c = omega (arith, long c.loop-i.invariant, c.loop-i.invariant.room, c.loop-i-test.true)

pub next_open_in-i-requires-in-loop-i : goal.next_open_in-i-requires-in-loop-i
next_open_in-i-requires-in-loop-i c = (c.requires.0, omega (arith, c.store_word.auto.bytes, long c.loop-i.invariant, c.loop-i.invariant.room, c.loop-i-test.true))

pub loop-i-preserved : goal.loop-i-preserved
loop-i-preserved c = skip (λ k. search rules) c.next_open_in-i-in-loop-i.ensures
    (record {
      within = omega (arith, c.loop-i-test.true);
      room = c.loop-i.invariant.room;
      same = c.store_word.ensures ∙ more c.loop-i.invariant _ (c.linked_word.ensures ∙ ap (λ (x : ℕ). linked c.args.firsts.now c.loop-i.i x) c.read_word-w.ensures);
    })

pub shape_of-out : goal.shape_of-out
shape_of-out c = long c.loop-i.invariant

pub returns : goal.returns
returns c = c.loop-i.invariant.same ∙ ap (λ (k : ℕ). over (bytes_of (linked_from c.args.firsts.now 0 (first_words k c.args.out.now))) c.args.out.now) (le_antisymm c.loop-i.invariant.within c.loop-i-test.false)
