-- misfits meets its contract.
use Rattle.lookup.proofs.Signs.{clash_at, clash_past}
use Rattle.lookup.specs.Answers.{got_of}
use mathlib.Core.Path.{◌∙◌, ap, sym}
use Rattle.lookup.proofs.misfits.Goals as goal

pub returns-in-Some : goal.returns-in-Some
unfolding got_of
returns-in-Some c = clash_at _ (sym (ap (got_of c.args.img.now) c.in-Some.is) ∙ c.first_due.ensures) c.clashing.ensures

pub returns-in-None : goal.returns-in-None
unfolding got_of
returns-in-None c = clash_past _ (sym (ap (got_of c.args.img.now) c.in-None.is) ∙ c.first_due.ensures)
