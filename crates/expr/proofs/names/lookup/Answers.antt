-- `lookup` meets its contract.
use Rattle.expr.proofs.Find.{find_hit, skip_name, skip_key, find_none}
use Rattle.expr.specs.Names.{reg_of}
use native.Mathlib.Omega.{arith}
use mathlib.Core.Path.{refl, sym, ◌∙◌}
use Rattle.expr.proofs.names.lookup.Goals as goal

pub loop-k-init : goal.loop-k-init
loop-k-init c = (rw c.names_in-k.ensures (omega arith), rw c.names_in-k.ensures refl)

pub returns-then-same_name : goal.returns-then-same_name
unfolding reg_of
returns-then-same_name c = rw (c.number_in.ensures, c.cell-c.ensures) (find_hit c.args.img.now c.args.scope.now _ c.loop-k.k c.loop-k-test.true (sym c.cell.ensures ∙ c.if-cell-key.true ∙ c.name_key-key.ensures) (rw (← c.cell-c.ensures, ← c.place_in.ensures) (sym c.same_name.ensures ∙ c.if-same_name.true)) ∙ c.loop-k.invariant.1)

pub loop-k-preserved-else-same_name : goal.loop-k-preserved-else-same_name
loop-k-preserved-else-same_name c = (omega arith, sym (skip_name c.args.img.now c.args.scope.now _ c.loop-k.k c.loop-k-test.true (rw (← c.cell-c.ensures, ← c.place_in.ensures) (sym c.same_name.ensures ∙ c.if-same_name.false))) ∙ c.loop-k.invariant.1)

pub loop-k-preserved : goal.loop-k-preserved
loop-k-preserved c = (omega arith, sym (skip_key c.args.img.now c.args.scope.now _ c.loop-k.k c.loop-k-test.true (λ e. c.if-cell-key.false (c.cell.ensures ∙ e ∙ sym c.name_key-key.ensures))) ∙ c.loop-k.invariant.1)

pub returns : goal.returns
unfolding reg_of
returns c = find_none c.args.img.now c.args.scope.now _ c.loop-k.k c.loop-k-test.false ∙ c.loop-k.invariant.1
