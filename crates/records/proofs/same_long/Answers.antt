-- same_long meets its contract.
use Rattle.rules.specs.Bytes.{le64}
use mathlib.Core.Path.{sym, ◌∙◌}
use Prim.Native.Nat.{◌-◌}
use lib.ListN.{length}
use native.Mathlib.Omega.{arith}
use Rattle.records.specs.Names.{apart}
use Rattle.records.proofs.Eights.{more8, whole}
use Rattle.records.proofs.same_long.Goals as goal

pub overflow_sub-n : goal.overflow_sub-n
overflow_sub-n c = omega arith

pub eight_in-requires : goal.eight_in-requires
eight_in-requires c = omega arith

pub overflow_sub-n-2 : goal.overflow_sub-n-2
overflow_sub-n-2 c = omega arith

pub eight_in-requires-2 : goal.eight_in-requires-2
eight_in-requires-2 c = omega arith

pub returns-then-eight_in : goal.returns-then-eight_in
returns-then-eight_in c = apart c.args.a.now c.args.b.now (λ l. le64 l (length c.args.a.now - 8)) (λ e. c.if-eight_in.true (c.eight_in.ensures ∙ e ∙ sym c.eight_in-2.ensures))

pub loop-i-init : goal.loop-i-init
loop-i-init c = (omega arith, λ k h. absurd (omega arith))

pub overflow_sub-n-in-loop-i : goal.overflow_sub-n-in-loop-i
overflow_sub-n-in-loop-i c = omega arith

pub eight_in-requires-in-loop-i : goal.eight_in-requires-in-loop-i
eight_in-requires-in-loop-i c = omega arith

pub eight_in-requires-in-loop-i-2 : goal.eight_in-requires-in-loop-i-2
eight_in-requires-in-loop-i-2 c = omega arith

pub returns-then-eight_in-2 : goal.returns-then-eight_in-2
returns-then-eight_in-2 c = apart c.args.a.now c.args.b.now (λ l. le64 l c.loop-i.i) (λ e. c.if-eight_in-2.true (c.eight_in-in-loop-i.ensures ∙ e ∙ sym c.eight_in-in-loop-i-2.ensures))

pub overflow_add-i : goal.overflow_add-i
overflow_add-i c = omega arith

pub loop-i-smaller : goal.loop-i-smaller
loop-i-smaller c = omega arith

pub loop-i-preserved : goal.loop-i-preserved
loop-i-preserved c = (omega arith, more8 c.args.a.now c.args.b.now (λ k. omega (arith, c.type_inv.a k)) (λ k. omega (arith, c.type_inv.b k)) c.loop-i.i c.loop-i.invariant.1 (sym c.eight_in-in-loop-i.ensures ∙ c.if-eight_in-2.false ∙ c.eight_in-in-loop-i-2.ensures))

pub returns : goal.returns
returns c = whole c.args.a.now c.args.b.now (λ k. omega (arith, c.type_inv.a k)) (λ k. omega (arith, c.type_inv.b k)) c.requires.1 c.loop-i.i (omega arith) c.requires.0 c.loop-i.invariant.1 (sym c.eight_in.ensures ∙ c.if-eight_in.false ∙ c.eight_in-2.ensures)
