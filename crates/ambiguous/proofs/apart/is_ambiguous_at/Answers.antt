-- is_ambiguous_at meets its contract.
use mathlib.Core.Path.{◌∙◌, sym}
use Rattle.notes.specs.Left.{clear_one, clear_none}
use Rattle.ambiguous.specs.Spots.{unsure}
use Rattle.ambiguous.proofs.apart.is_ambiguous_at.Goals as goal

pub returns-in-Some : goal.returns-in-Some
returns-in-Some c = sym (rw (← c.requires) at (clear_one c.args.analysed.now.contract.img.now c.args.analysed.now.notes.now c.args.analysed.now.known.1 c.args.at _ (sym c.note.ensures ∙ c.in-Some.is)))

pub returns-in-None : goal.returns-in-None
unfolding unsure
returns-in-None c = c.is_ambiguous.ensures ∙ sym (rw (← c.requires) at (clear_none c.args.analysed.now.contract.img.now c.args.analysed.now.notes.now c.args.analysed.now.known.1 c.args.at (sym c.note.ensures ∙ c.in-None.is)))
