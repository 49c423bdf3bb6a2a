-- get meets its contract.
use mathlib.Core.Path.{◌∙◌, ap}
use Prim.Native.Nat.{ℕ}
use lib.ListN.{get_or-eq_default}
use Rattle.rules.specs.Bytes.{pick}
use Rattle.notes.specs.Notes.{read_as_lem, note_at}
use Rattle.notes.proofs.get.Goals as goal

pub returns-then-i-notes : goal.returns-then-i-notes
unfolding note_at
returns-then-i-notes c = c.read.ensures ∙ ap (read_as_lem _) c.from.ensures

pub returns-else-i-notes : goal.returns-else-i-notes
unfolding note_at read_as_lem pick
returns-else-i-notes c = rw (get_or-eq_default {A = ℕ} _ 0 c.if-i-notes.false)
