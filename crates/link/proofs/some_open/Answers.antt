-- `link::some_open` meets its contract: so far no word that was looked at is open, or `any` tells of one.
use mathlib.Core.Path.{sym, ◌∙◌}
use mathlib.Core.Bool.{true≢false}
use native.Mathlib.Omega.{arith}
use Rattle.isa.specs.Ruled.{is_opcode}
use borrow.Author.Count.{below_more}
use borrow.Author.Tests.{not-false}
use Rattle.link.proofs.some_open.Goals.{then-not-fact, else-not-fact}
use Rattle.link.proofs.some_open.Goals as goal

pub loop-k-preserved : goal.loop-k-preserved
loop-k-preserved c = λ e. elim c.if-not-fact.branch [
  | then-not-fact w ↦ absurd (true≢false (sym w.any-is ∙ e))
  | else-not-fact w ↦ below_more _ _ (c.loop-k.invariant (sym w.any-is ∙ e)) (is_opcode _ c.requires.0 _ (omega arith) c.fact.ensures (not-false _ w.if-not-fact.false))
]

pub returns : goal.returns
returns c = λ e m h. c.loop-k.invariant e m (omega (arith, h))
