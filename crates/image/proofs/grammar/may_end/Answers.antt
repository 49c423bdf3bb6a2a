-- `image::grammar::may_end`: each return by its tests, and the classes' rows (`must_listed`, `must_alone`).
use Rattle.rules.specs.Grammar.{class_of}
use Rattle.image.proofs.Table.{must_listed, must_alone}
use borrow.Author.Rules.{rules}
use Rattle.image.proofs.grammar.may_end.Goals as goal

pub returns-then-d-ge-STORAGE_FIELD : goal.returns-then-d-ge-STORAGE_FIELD
returns-then-d-ge-STORAGE_FIELD c = rw (must_listed c.args.d c.if-d-ge-STORAGE_FIELD.true)

pub returns-then-d-eq-NOTHING : goal.returns-then-d-eq-NOTHING
unfolding class_of
returns-then-d-eq-NOTHING c = search rules

pub returns-then-d-eq-RETURNED : goal.returns-then-d-eq-RETURNED
unfolding class_of
returns-then-d-eq-RETURNED c = search rules

pub returns : goal.returns
returns c = must_alone c.args.d c.if-d-ge-STORAGE_FIELD.false c.if-d-eq-NOTHING.false c.if-d-eq-RETURNED.false
