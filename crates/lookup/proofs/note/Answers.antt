-- note meets its contract.
use Rattle.std.proofs.Common.{ap, not, ◌∙◌}
use Rattle.lookup.specs.Answers.{misfit_of, noted}
use Rattle.rules.specs.Bytes.{pick}
use Rattle.rules.specs.Tables.{or_else}
use Rattle.lookup.proofs.Fits.{no_misfit, misfit_kept, misfit_before}
use Rattle.lookup.proofs.note.Goals as goal
use Rattle.lookup.proofs.note.Goals.{else-is_none-via-then-is_none+else-misfits, else-is_none-via-else-is_none}

pub returns-then-misfits : goal.returns-then-misfits
unfolding misfit_of noted or_else pick
returns-then-misfits c = rw (no_misfit c.args.m (c.is_none.ensures ∙ ap not c.if-is_none.true), ← c.misfits.ensures, c.if-misfits.true)

pub returns : goal.returns
returns c = elim c.else-is_none.branch [
  | else-is_none-via-then-is_none+else-misfits w ↦ rw (← w.misfits.ensures, w.if-misfits.false) (misfit_kept c.args.m c.args.i c.args.at)
  | else-is_none-via-else-is_none w ↦ misfit_before c.args.m _ c.args.i c.args.at (c.is_none.ensures ∙ ap not w.if-is_none.false)
]
