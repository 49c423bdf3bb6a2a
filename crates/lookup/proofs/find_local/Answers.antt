-- find_local meets its contract.
use Rattle.std.specs.Prelude.{Some}
use mathlib.Core.Path.{◌∙◌, ap, refl, sym}
use native.Mathlib.Omega.{arith}
use Rattle.rules.specs.Bytes.{name_at}
use Rattle.lookup.specs.Answers.{got_of}
use Rattle.lookup.proofs.Scopes.{find_hit, find_miss, find_none, find_other}
use Rattle.lookup.proofs.find_local.Goals as goal

pub loop-k-init : goal.loop-k-init
loop-k-init c = (omega arith, refl)

pub overflow_add-k : goal.overflow_add-k
overflow_add-k c = omega arith

pub returns-then-same_name : goal.returns-then-same_name
unfolding got_of
returns-then-same_name c = ap Some (rw (c.number_in-n.ensures, c.cell-c.ensures) at (c.type_of.ensures c.args.img.now)) ∙ sym (c.loop-k.invariant.1 ∙ find_hit c.args.img.now c.args.env.now (name_at c.args.img.now c.args.x) c.loop-k.k c.loop-k-test.true (sym c.cell.ensures ∙ c.if-cell-key.true ∙ c.name_key-key.ensures) (sym (rw (c.place_in.ensures, c.cell-c.ensures) at c.same_name.ensures) ∙ c.if-same_name.true))

pub loop-k-preserved-else-same_name : goal.loop-k-preserved-else-same_name
loop-k-preserved-else-same_name c = (omega arith, c.loop-k.invariant.1 ∙ find_miss c.args.img.now c.args.env.now (name_at c.args.img.now c.args.x) c.loop-k.k c.loop-k-test.true (sym (rw (c.place_in.ensures, c.cell-c.ensures) at c.same_name.ensures) ∙ c.if-same_name.false))

pub loop-k-preserved : goal.loop-k-preserved
loop-k-preserved c = (omega arith, c.loop-k.invariant.1 ∙ find_other c.args.img.now c.args.env.now (name_at c.args.img.now c.args.x) c.loop-k.k c.loop-k-test.true (λ h. c.if-cell-key.false (c.cell.ensures ∙ h ∙ sym c.name_key-key.ensures)))

pub returns : goal.returns
unfolding got_of
returns c = sym (c.loop-k.invariant.1 ∙ find_none c.args.img.now c.args.env.now (name_at c.args.img.now c.args.x) c.loop-k.k c.loop-k-test.false)
