-- position_at meets its contract.
use Rattle.std.specs.Prelude.{None}
use Rattle.fields.proofs.Positions.{placed_kept, placed_replaced, placed_lacking}
use Rattle.rules.specs.Bytes.{inside}
use mathlib.Core.Path.{refl, ap, ◌∙◌}
use Rattle.fields.proofs.position_at.Goals as goal

pub returns-in_err-here : goal.returns-in_err-here
returns-in_err-here c =
    placed_lacking c.args.contract.now.img.now c.args.x.now c.args.i c.requires c.from_residual.ensures (rw (c.past.ensures.0, c.body-name.ensures.0, c.struct_place.ensures c.requires, ← c.from_residual.ensures) at c.in_err-here.ensures)

pub is_newest-requires : goal.is_newest-requires
is_newest-requires c = (c.requires, c.body-name.ensures.0 ∙ ap (inside c.args.contract.now.img.now) (c.struct_place.ensures c.requires))

pub returns-then-is_newest : goal.returns-then-is_newest
returns-then-is_newest c = placed_kept c.args.contract.now.img.now c.args.x.now c.args.i c.requires (rw c.if-is_newest.true at c.is_newest.ensures) (rw (c.past.ensures.0, c.body-name.ensures.0, c.struct_place.ensures c.requires) at c.in_ok-here.ensures)

pub returns-else-is_newest : goal.returns-else-is_newest
returns-else-is_newest c = placed_replaced c.args.contract.now.img.now c.args.x.now c.args.i c.requires (rw c.if-is_newest.false at c.is_newest.ensures)
