-- same_four meets its contract.
use Rattle.records.specs.Names.{apart}
use Rattle.records.proofs.Eights.{ends}
use native.Mathlib.Omega.{arith}
use lib.ListN.{length}
use Prim.Native.Nat.{◌-◌}
use mathlib.Core.Path.{sym, ◌∙◌}
use Rattle.rules.specs.Bytes.{le32}
use Rattle.records.proofs.same_four.Goals as goal

pub returns-then-word_in : goal.returns-then-word_in
returns-then-word_in c = apart c.args.a.now c.args.b.now (λ l. le32 l (length c.args.a.now - 4)) (λ e. c.if-word_in.true (c.word_in.ensures.0 ∙ e ∙ sym c.word_in-2.ensures.0))

pub returns-then-word_in-2 : goal.returns-then-word_in-2
returns-then-word_in-2 c = apart c.args.a.now c.args.b.now (λ l. le32 l 0) (λ e. c.if-word_in-2.true (c.word_in-3.ensures.0 ∙ e ∙ sym c.word_in-4.ensures.0))

pub returns : goal.returns
returns c = ends c.args.a.now c.args.b.now (λ k. omega (arith, c.type_inv.a k)) (λ k. omega (arith, c.type_inv.b k)) c.requires.1.1 c.requires.0 c.requires.1.0 (sym c.word_in.ensures.0 ∙ c.if-word_in.false ∙ c.word_in-2.ensures.0) (sym c.word_in-3.ensures.0 ∙ c.if-word_in-2.false ∙ c.word_in-4.ensures.0)
