-- `image::check_record`: all the parts are as those that are left (`Turn`), whatever record it is in which they are due.
use mathlib.Core.Path.{◌≡◌, ◌∙◌, sym, subst}
use mathlib.Core.Bool.{true, false}
use native.Mathlib.Omega.{arith}
use Rattle.rules.specs.Check.{ended}
use Rattle.image.specs.Rows.{off}
use Rattle.image.specs.Within.{Parts}
use Rattle.image.proofs.Turns.{turn_start, passed_is, first_small}
use Rattle.image.proofs.Loop.{turn_ended, turn_short, turn_refused, turn_own, turn_leaf, turn_tail, turn_in, turn_past}
use Prim.Native.Nat.{ℕ, ◌+◌, ◌-◌, ◌%◌}
use Rattle.image.proofs.+check_record.Goals as goal

pub loop-p-init : goal.loop-p-init
loop-p-init t c = turn_start c.args.t.now c.args.s.now c.args.from c.args.end c.args.levels c.args.dues c.args.vars c.requires.4 (omega arith) (omega arith) (omega arith)

pub returns-then-is_ended : goal.returns-then-is_ended
returns-then-is_ended t c = turn_ended c.args.t.now c.args.s.now c.args.from c.args.end c.args.levels c.args.dues c.args.vars c.loop-p.p c.loop-p.left c.loop-p.w c.loop-p.n c.loop-p.invariant (sym c.is_ended.ensures ∙ c.if-is_ended.true)

pub returns-then-end-p-lt6 : goal.returns-then-end-p-lt6
returns-then-end-p-lt6 t c = subst (λ (x : ℕ). Parts c.args.levels c.args.s.now c.args.from c.args.end c.args.dues c.args.vars x) (sym c.fault.ensures) (turn_short c.args.t.now c.args.s.now c.args.from c.args.end c.args.levels c.args.dues c.args.vars c.loop-p.p c.loop-p.left c.loop-p.w c.loop-p.n c.loop-p.invariant c.if-end-p-lt6.true (sym c.is_ended.ensures ∙ c.if-is_ended.false))

pub fault-requires-then-no-ne0 : goal.fault-requires-then-no-ne0
fault-requires-then-no-ne0 t c = (first_small _ _ _ _ _ c.refusal-no.ensures, omega arith)

pub returns-then-no-ne0 : goal.returns-then-no-ne0
returns-then-no-ne0 t c = subst (λ (x : ℕ). Parts c.args.levels c.args.s.now c.args.from c.args.end c.args.dues c.args.vars x) (sym c.fault-then-no-ne0.ensures) (turn_refused c.args.t.now c.args.s.now c.args.from c.args.end c.args.levels c.args.dues c.args.vars c.loop-p.p c.loop-p.left c.loop-p.w c.loop-p.n c.loop-p.invariant (omega arith) c.word-size.result c.half-kind.result c.word-size.ensures.0 c.half-kind.ensures.0 c.refusal-no.result c.refusal-no.ensures c.if-no-ne0.true)

pub overflow_add-next-in-loop-p : goal.overflow_add-next-in-loop-p
overflow_add-next-in-loop-p t c = let q = passed_is c.args.t.now c.word-size.result (c.args.end - c.loop-p.p) c.loop-p.left (c.loop-p.w % 32) c.loop-p.w c.loop-p.n c.half-kind.result (sym c.refusal-no.ensures ∙ c.if-no-ne0.false) in omega arith

pub after_first-w-requires : goal.after_first-w-requires
after_first-w-requires t c = let q = passed_is c.args.t.now c.word-size.result (c.args.end - c.loop-p.p) c.loop-p.left (c.loop-p.w % 32) c.loop-p.w c.loop-p.n c.half-kind.result (sym c.refusal-no.ensures ∙ c.if-no-ne0.false) in q.rest

pub is_leaf-requires : goal.is_leaf-requires
is_leaf-requires t c = let q = passed_is c.args.t.now c.word-size.result (c.args.end - c.loop-p.p) c.loop-p.left (c.loop-p.w % 32) c.loop-p.w c.loop-p.n c.half-kind.result (sym c.refusal-no.ensures ∙ c.if-no-ne0.false) in q.below

pub own-requires : goal.own-requires
own-requires t c = let q = passed_is c.args.t.now c.word-size.result (c.args.end - c.loop-p.p) c.loop-p.left (c.loop-p.w % 32) c.loop-p.w c.loop-p.n c.half-kind.result (sym c.refusal-no.ensures ∙ c.if-no-ne0.false) in omega arith

pub loop-p-smaller-then-own : goal.loop-p-smaller-then-own
loop-p-smaller-then-own t c = let q = passed_is c.args.t.now c.word-size.result (c.args.end - c.loop-p.p) c.loop-p.left (c.loop-p.w % 32) c.loop-p.w c.loop-p.n c.half-kind.result (sym c.refusal-no.ensures ∙ c.if-no-ne0.false) in omega arith

pub loop-p-preserved-then-own : goal.loop-p-preserved-then-own
loop-p-preserved-then-own t c = let q = passed_is c.args.t.now c.word-size.result (c.args.end - c.loop-p.p) c.loop-p.left (c.loop-p.w % 32) c.loop-p.w c.loop-p.n c.half-kind.result (sym c.refusal-no.ensures ∙ c.if-no-ne0.false) in rw c.after_first-w.ensures (turn_leaf c.args.t.now c.args.s.now c.args.from c.args.end c.args.levels c.args.dues c.args.vars c.loop-p.p c.loop-p.left c.loop-p.w c.loop-p.n c.loop-p.invariant (omega arith) c.word-size.result c.half-kind.result c.word-size.ensures.0 c.half-kind.ensures.0 q (sym c.is_leaf.ensures ∙ c.if-is_leaf.true) (sym c.own.ensures ∙ c.if-own.true))

pub returns-then-is_leaf : goal.returns-then-is_leaf
returns-then-is_leaf t c = let q = passed_is c.args.t.now c.word-size.result (c.args.end - c.loop-p.p) c.loop-p.left (c.loop-p.w % 32) c.loop-p.w c.loop-p.n c.half-kind.result (sym c.refusal-no.ensures ∙ c.if-no-ne0.false) in subst (λ (x : ℕ). Parts c.args.levels c.args.s.now c.args.from c.args.end c.args.dues c.args.vars x) (sym c.fault-then-is_leaf.ensures) (turn_own c.args.t.now c.args.s.now c.args.from c.args.end c.args.levels c.args.dues c.args.vars c.loop-p.p c.loop-p.left c.loop-p.w c.loop-p.n c.loop-p.invariant (omega arith) c.word-size.result c.half-kind.result c.word-size.ensures.0 c.half-kind.ensures.0 q (sym c.own.ensures ∙ c.if-own.false))

pub dues_of-inner-requires : goal.dues_of-inner-requires
dues_of-inner-requires t c = let q = passed_is c.args.t.now c.word-size.result (c.args.end - c.loop-p.p) c.loop-p.left (c.loop-p.w % 32) c.loop-p.w c.loop-p.n c.half-kind.result (sym c.refusal-no.ensures ∙ c.if-no-ne0.false) in (q.below, λ z. c.loop-p.invariant.right.lists (c.loop-p.w % 32) (omega arith) (subst (λ (x : ℕ). off c.args.t.now (c.loop-p.w % 32) x ≡ false) z q.on))

pub overflow_sub-left : goal.overflow_sub-left
overflow_sub-left t c = let q = passed_is c.args.t.now c.word-size.result (c.args.end - c.loop-p.p) c.loop-p.left (c.loop-p.w % 32) c.loop-p.w c.loop-p.n c.half-kind.result (sym c.refusal-no.ensures ∙ c.if-no-ne0.false) in omega arith

pub loop-p-smaller-then-is_ended-2 : goal.loop-p-smaller-then-is_ended-2
loop-p-smaller-then-is_ended-2 t c = let q = passed_is c.args.t.now c.word-size.result (c.args.end - c.loop-p.p) c.loop-p.left (c.loop-p.w % 32) c.loop-p.w c.loop-p.n c.half-kind.result (sym c.refusal-no.ensures ∙ c.if-no-ne0.false) in omega arith

pub loop-p-preserved-then-is_ended-2 : goal.loop-p-preserved-then-is_ended-2
loop-p-preserved-then-is_ended-2 t c = let q = passed_is c.args.t.now c.word-size.result (c.args.end - c.loop-p.p) c.loop-p.left (c.loop-p.w % 32) c.loop-p.w c.loop-p.n c.half-kind.result (sym c.refusal-no.ensures ∙ c.if-no-ne0.false) in turn_tail c.args.t.now c.args.s.now c.args.from c.args.end c.args.levels c.args.dues c.args.vars c.loop-p.p c.loop-p.left c.loop-p.w c.loop-p.n c.loop-p.invariant (omega arith) c.word-size.result c.half-kind.result c.word-size.ensures.0 c.half-kind.ensures.0 q (sym c.is_leaf.ensures ∙ c.if-is_leaf.false) c.dues_of-inner.result c.vars_in-m.result c.dues_of-inner.ensures c.vars_in-m.ensures.0 c.vars_in-m.ensures.1 (subst (λ (x : ℕ). ended (x % 32) (c.loop-p.p + 4 + c.word-size.result) c.args.end ≡ true) c.after_first-w.ensures (sym c.is_ended-in-loop-p.ensures ∙ c.if-is_ended-2.true))

pub overflow_add-p-in-loop-p : goal.overflow_add-p-in-loop-p
overflow_add-p-in-loop-p t c = let q = passed_is c.args.t.now c.word-size.result (c.args.end - c.loop-p.p) c.loop-p.left (c.loop-p.w % 32) c.loop-p.w c.loop-p.n c.half-kind.result (sym c.refusal-no.ensures ∙ c.if-no-ne0.false) in omega arith

pub overflow_sub-left-in-loop-p : goal.overflow_sub-left-in-loop-p
overflow_sub-left-in-loop-p t c = let q = passed_is c.args.t.now c.word-size.result (c.args.end - c.loop-p.p) c.loop-p.left (c.loop-p.w % 32) c.loop-p.w c.loop-p.n c.half-kind.result (sym c.refusal-no.ensures ∙ c.if-no-ne0.false) in omega arith

pub check_record-r-requires : goal.check_record-r-requires
check_record-r-requires t c = let q = passed_is c.args.t.now c.word-size.result (c.args.end - c.loop-p.p) c.loop-p.left (c.loop-p.w % 32) c.loop-p.w c.loop-p.n c.half-kind.result (sym c.refusal-no.ensures ∙ c.if-no-ne0.false) in (omega arith, (omega arith, omega arith, omega arith, omega arith, c.loop-p.invariant.right))

pub returns-then-r-ge-MANY : goal.returns-then-r-ge-MANY
returns-then-r-ge-MANY t c = let q = passed_is c.args.t.now c.word-size.result (c.args.end - c.loop-p.p) c.loop-p.left (c.loop-p.w % 32) c.loop-p.w c.loop-p.n c.half-kind.result (sym c.refusal-no.ensures ∙ c.if-no-ne0.false) in turn_in c.args.t.now c.args.s.now c.args.from c.args.end c.args.levels c.args.dues c.args.vars c.loop-p.p c.loop-p.left c.loop-p.w c.loop-p.n c.loop-p.invariant (omega arith) c.word-size.result c.half-kind.result c.word-size.ensures.0 c.half-kind.ensures.0 q (sym c.is_leaf.ensures ∙ c.if-is_leaf.false) c.dues_of-inner.result c.vars_in-m.result c.dues_of-inner.ensures c.vars_in-m.ensures.0 c.vars_in-m.ensures.1 c.check_record-r.result c.check_record-r.ensures c.if-r-ge-MANY.true

pub loop-p-smaller : goal.loop-p-smaller
loop-p-smaller t c = let q = passed_is c.args.t.now c.word-size.result (c.args.end - c.loop-p.p) c.loop-p.left (c.loop-p.w % 32) c.loop-p.w c.loop-p.n c.half-kind.result (sym c.refusal-no.ensures ∙ c.if-no-ne0.false) in omega arith

pub loop-p-preserved : goal.loop-p-preserved
loop-p-preserved t c = let q = passed_is c.args.t.now c.word-size.result (c.args.end - c.loop-p.p) c.loop-p.left (c.loop-p.w % 32) c.loop-p.w c.loop-p.n c.half-kind.result (sym c.refusal-no.ensures ∙ c.if-no-ne0.false) in rw c.after_first-w.ensures (turn_past c.args.t.now c.args.s.now c.args.from c.args.end c.args.levels c.args.dues c.args.vars c.loop-p.p c.loop-p.left c.loop-p.w c.loop-p.n c.loop-p.invariant (omega arith) c.word-size.result c.half-kind.result c.word-size.ensures.0 c.half-kind.ensures.0 q (sym c.is_leaf.ensures ∙ c.if-is_leaf.false) c.dues_of-inner.result c.vars_in-m.result c.dues_of-inner.ensures c.vars_in-m.ensures.0 c.vars_in-m.ensures.1 c.check_record-r.result c.check_record-r.ensures c.if-r-ge-MANY.false)
