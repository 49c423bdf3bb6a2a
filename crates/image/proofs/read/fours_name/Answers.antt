-- `image::read::fours_name`: where no top bit is set no sum wraps (`room`), and then the test tells the eight bytes (`fours`).
use mathlib.Core.Path.{sym, subst}
use native.Mathlib.Omega.{arith}
use borrow.Author.Tests.{eqb-true}
use lib.Dec.{T}
use Rattle.image.proofs.Swar.{room, fours}
use Rattle.image.proofs.read.fours_name.Goals as goal

pub returns-then-w-ne0 : goal.returns-then-w-ne0
returns-then-w-ne0 c e = absurd (subst T (sym e) tt)

pub overflow_add-a : goal.overflow_add-a
overflow_add-a c = let r = room c.args.s.now c.args.p c.args.q (λ k. omega (arith, c.type_inv.s k)) (rw (← c.word.ensures.0, ← c.word-2.ensures.0) c.if-w-ne0.false) in omega arith

pub overflow_add-a-2 : goal.overflow_add-a-2
overflow_add-a-2 c = let r = room c.args.s.now c.args.p c.args.q (λ k. omega (arith, c.type_inv.s k)) (rw (← c.word.ensures.0, ← c.word-2.ensures.0) c.if-w-ne0.false) in omega arith

pub overflow_add-b : goal.overflow_add-b
overflow_add-b c = let r = room c.args.s.now c.args.p c.args.q (λ k. omega (arith, c.type_inv.s k)) (rw (← c.word.ensures.0, ← c.word-2.ensures.0) c.if-w-ne0.false) in omega arith

pub overflow_add-b-2 : goal.overflow_add-b-2
overflow_add-b-2 c = let r = room c.args.s.now c.args.p c.args.q (λ k. omega (arith, c.type_inv.s k)) (rw (← c.word.ensures.0, ← c.word-2.ensures.0) c.if-w-ne0.false) in omega arith

pub overflow_add-c : goal.overflow_add-c
overflow_add-c c = let r = room c.args.s.now c.args.p c.args.q (λ k. omega (arith, c.type_inv.s k)) (rw (← c.word.ensures.0, ← c.word-2.ensures.0) c.if-w-ne0.false) in omega arith

pub overflow_add-c-2 : goal.overflow_add-c-2
overflow_add-c-2 c = let r = room c.args.s.now c.args.p c.args.q (λ k. omega (arith, c.type_inv.s k)) (rw (← c.word.ensures.0, ← c.word-2.ensures.0) c.if-w-ne0.false) in omega arith

pub overflow_add-d : goal.overflow_add-d
overflow_add-d c = let r = room c.args.s.now c.args.p c.args.q (λ k. omega (arith, c.type_inv.s k)) (rw (← c.word.ensures.0, ← c.word-2.ensures.0) c.if-w-ne0.false) in omega arith

pub overflow_add-d-2 : goal.overflow_add-d-2
overflow_add-d-2 c = let r = room c.args.s.now c.args.p c.args.q (λ k. omega (arith, c.type_inv.s k)) (rw (← c.word.ensures.0, ← c.word-2.ensures.0) c.if-w-ne0.false) in omega arith

pub returns : goal.returns
returns c e = fours c.args.s.now c.args.p c.args.q (λ k. omega (arith, c.type_inv.s k)) (rw (← c.word.ensures.0, ← c.word-2.ensures.0) c.if-w-ne0.false) (rw (← c.word.ensures.0, ← c.word-2.ensures.0) (eqb-true _ _ e))
