-- read meets its contract.
use borrow.Author.Tests.{eq-eqb, ne_eqb}
use Rattle.rules.specs.Bytes.{pick}
use Rattle.notes.specs.Notes.{read_as_lem}
use Rattle.notes.proofs.read.Goals as goal

pub returns-then-v-eq0 : goal.returns-then-v-eq0
unfolding read_as_lem pick
returns-then-v-eq0 c = rw (eq-eqb _ _ c.if-v-eq0.true)

pub returns-then-v-p : goal.returns-then-v-p
unfolding read_as_lem pick
returns-then-v-p c = rw (ne_eqb _ _ c.if-v-eq0.false, eq-eqb _ _ c.if-v-p.true)

pub returns-else-v-p : goal.returns-else-v-p
unfolding read_as_lem pick
returns-else-v-p c = rw (ne_eqb _ _ c.if-v-eq0.false, ne_eqb _ _ c.if-v-p.false)
