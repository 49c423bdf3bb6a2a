-- set meets its contract.
use mathlib.Core.Path.{refl, sym}
use native.Mathlib.Omega.{arith}
use lib.Seq.{set_out}
use Rattle.notes.specs.Notes.{noted}
use Rattle.notes.proofs.set.Goals as goal

pub returns-then-notes-i : goal.returns-then-notes-i
unfolding noted
returns-then-notes-i c = sym (set_out _ _ _ c.if-notes-i.true)

pub overflow_cast-notes : goal.overflow_cast-notes
overflow_cast-notes c = omega (arith, c.requires)

pub returns : goal.returns
unfolding noted
returns c = refl
