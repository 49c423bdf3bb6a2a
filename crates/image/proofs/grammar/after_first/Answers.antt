-- `image::grammar::after_first`: each return by its test; a List that is not full has one more.
use native.Mathlib.Omega.{arith}
use borrow.Author.Tests.{le-leb, lt-leb}
use Rattle.rules.specs.Bytes.{pick}
use Rattle.image.specs.Rows.{further}
use Rattle.image.proofs.grammar.after_first.Goals as goal

pub overflow_sub-result : goal.overflow_sub-result
overflow_sub-result c = let h = c.requires c.if-d-ge-STORAGE_FIELD.true in omega arith

pub returns-then-d-ge-STORAGE_FIELD : goal.returns-then-d-ge-STORAGE_FIELD
unfolding further pick
returns-then-d-ge-STORAGE_FIELD c = rw (le-leb 18 c.args.d c.if-d-ge-STORAGE_FIELD.true)

pub returns-else-d-ge-STORAGE_FIELD : goal.returns-else-d-ge-STORAGE_FIELD
unfolding further pick
returns-else-d-ge-STORAGE_FIELD c = rw (lt-leb 18 c.args.d c.if-d-ge-STORAGE_FIELD.false)
