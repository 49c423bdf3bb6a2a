-- `link::some_open_in` meets its contract: so far no word that was looked at is open, or `any` tells of one.
use mathlib.Core.Path.{sym, ◌∙◌}
use mathlib.Core.Bool.{true≢false}
use Prim.Native.Nat.{◌+◌, ◌*◌}
use native.Mathlib.Omega.{arith}
use Rattle.isa.specs.Ruled.{is_opcode}
use borrow.Author.Count.{below_more}
use borrow.Author.Tests.{not-false}
use Rattle.link.proofs.some_open_in.Goals.{then-not-fact, else-not-fact}
use Rattle.link.proofs.some_open_in.Goals as goal

pub loop-j-preserved : goal.loop-j-preserved
loop-j-preserved c = λ e. elim c.if-not-fact.branch [
  | then-not-fact w ↦ absurd (true≢false (sym w.any-is ∙ e))
  | else-not-fact w ↦ below_more _ _ (c.loop-j.invariant (sym w.any-is ∙ e)) (is_opcode _ c.requires.0 _ (omega (arith, c.type_inv.out (8 * (c.args.i + c.loop-j.j)))) c.fact.ensures (not-false _ w.if-not-fact.false))
]

pub returns : goal.returns
returns c = λ e m h. c.loop-j.invariant e m (omega (arith, h))
