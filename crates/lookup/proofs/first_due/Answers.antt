-- first_due meets its contract.
use Rattle.std.specs.Prelude.{Some}
use Rattle.lookup.proofs.Signs.{repeated_first}
use Rattle.lookup.specs.Answers.{due_of, got_of, ty_of}
use Rattle.lookup.specs.Places.{places_end, places_more, places_zero}
use Rattle.rules.specs.Analyse.{repeated}
use Rattle.rules.specs.Tables.{nth}
use mathlib.Core.Path.{ap}
use Rattle.lookup.proofs.first_due.Goals as goal

pub returns-then-k-eq0 : goal.returns-then-k-eq0
unfolding got_of due_of nth repeated
returns-then-k-eq0 c = rw (c.in-Words.is, c.if-k-eq0.true)

pub returns-then-left-eq0 : goal.returns-then-left-eq0
unfolding got_of due_of nth
returns-then-left-eq0 c = rw (c.in-Fields.is, places_zero c.args.img.now _ _ _ c.if-left-eq0.true)

pub returns-then-end-at : goal.returns-then-end-at
unfolding got_of due_of nth
returns-then-end-at c = rw (c.in-Fields.is, places_end c.args.img.now _ _ _ c.if-end-at.true)

pub returns-else-k-eq0 : goal.returns-else-k-eq0
unfolding got_of due_of ty_of
returns-else-k-eq0 c = rw c.in-Words.is (repeated_first _ c.if-k-eq0.false)

pub returns-else-end-at : goal.returns-else-end-at
unfolding got_of due_of nth
returns-else-end-at c = rw (c.in-Fields.is, places_more c.args.img.now _ _ _ c.if-left-eq0.false c.if-end-at.false) (ap Some c.declared.ensures)
