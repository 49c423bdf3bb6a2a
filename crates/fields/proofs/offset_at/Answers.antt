-- offset_at meets its contract.
use mathlib.Core.Path.{◌∙◌, sym, ap}
use native.Mathlib.Omega.{arith}
use Rattle.notes.specs.Left.{note_few, offset_one, offset_none}
use Rattle.fields.specs.Spots.{searched}
use Rattle.fields.proofs.offset_at.Goals as goal

pub overflow_mul-result : goal.overflow_mul-result
overflow_mul-result c = let b = note_few _ _ _ (sym c.note.ensures ∙ c.in-Some.is) in omega (arith, b)

pub returns-in-Some : goal.returns-in-Some
returns-in-Some c = sym (rw (← c.requires) at (offset_one c.args.analysed.now.contract.img.now c.args.analysed.now.notes.now c.args.analysed.now.known.1 c.args.at _ (sym c.note.ensures ∙ c.in-Some.is)))

pub returns-in-None : goal.returns-in-None
unfolding searched
returns-in-None c = c.field_offset.ensures ∙ sym (rw (← c.requires) at (offset_none c.args.analysed.now.contract.img.now c.args.analysed.now.notes.now c.args.analysed.now.known.1 c.args.at (sym c.note.ensures ∙ c.in-None.is)))
