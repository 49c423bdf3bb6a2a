-- `in_for` meets its contract.
use mathlib.Core.Path.{refl}
use native.Mathlib.Omega.{arith}
use Rattle.rules.specs.Read.{stmt_as}
use Rattle.bounds.specs.Sizes.{vars}
use Rattle.trace.specs.Parts.{for_from, for_to, for_add, for_lt, for_loop}
use Rattle.trace.proofs.in_for.Goals as goal

pub returns-then-want-v : goal.returns-then-want-v
returns-then-want-v c = for_from c.body-var.ensures.0 c.past-from.ensures.0 c.count_expr-v.ensures c.if-want-v.true c.value.ensures

pub returns-then-want-w : goal.returns-then-want-w
returns-then-want-w c = for_to c.body-var.ensures.0 c.past-from.ensures.0 c.past-to.ensures.0 c.count_expr-v.ensures c.if-want-v.false c.count_expr-w.ensures c.if-want-w.true c.value-then-want-w.ensures

pub returns-then-want-i : goal.returns-then-want-i
returns-then-want-i c = for_add c.body-var.ensures.0 c.past-from.ensures.0 c.past-to.ensures.0 c.count_expr-v.ensures c.if-want-v.false c.count_expr-w.ensures c.if-want-w.false c.alloc_reg-r.ensures c.reserve-i.ensures c.if-want-i.true c.own.ensures

pub returns-then-want-l : goal.returns-then-want-l
returns-then-want-l c = for_lt (record { var = c.body-var.ensures.0; from = c.past-from.ensures.0; to = c.past-to.ensures.0; list = refl; begins = c.count_expr-v.ensures; ends = c.count_expr-w.ensures; takes = c.alloc_reg-r.ensures; keeps = c.reserve-i.ensures; tests = c.alloc_reg-c.ensures; tested = c.reserve-l.ensures }) c.if-want-v.false c.if-want-w.false c.if-want-i.false c.if-want-l.true c.own-then-want-l.ensures

pub bind-requires : goal.bind-requires
unfolding vars stmt_as
bind-requires c = (omega (arith, c.requires.names), (c.requires.size, c.args.analysed.now.contract.tabled.small))

pub shape_of-scope : goal.shape_of-scope
shape_of-scope c = c.bind.auto.scope

pub returns : goal.returns
returns c = for_loop (record { var = c.body-var.ensures.0; from = c.past-from.ensures.0; to = c.past-to.ensures.0; list = c.past.ensures.0; begins = c.count_expr-v.ensures; ends = c.count_expr-w.ensures; takes = c.alloc_reg-r.ensures; keeps = c.reserve-i.ensures; tests = c.alloc_reg-c.ensures; tested = c.reserve-l.ensures }) c.requires c.bind.ensures c.bind.auto.scope c.if-want-v.false c.if-want-w.false c.if-want-i.false c.if-want-l.false c.in_loop.ensures
