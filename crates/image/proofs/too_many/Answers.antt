-- `image::too_many`: each return by its tests.
use borrow.Author.Tests.{le-leb, lt-leb, lt-ltb, le-ltb}
use Rattle.image.specs.Rows.{full}
use Rattle.image.proofs.too_many.Goals as goal

pub returns-then-dues-lt-PARTS : goal.returns-then-dues-lt-PARTS
unfolding full
returns-then-dues-lt-PARTS c = rw (le-leb 18 c.args.d c.if-d-ge-STORAGE_FIELD.true, lt-ltb c.args.dues 4294967296 c.if-dues-lt-PARTS.true)

pub returns-then-d-ge-STORAGE_FIELD : goal.returns-then-d-ge-STORAGE_FIELD
unfolding full
returns-then-d-ge-STORAGE_FIELD c = rw (le-leb 18 c.args.d c.if-d-ge-STORAGE_FIELD.true, le-ltb c.args.dues 4294967296 c.if-dues-lt-PARTS.false) c.many_vars.ensures

pub returns : goal.returns
unfolding full
returns c = rw (lt-leb 18 c.args.d c.if-d-ge-STORAGE_FIELD.false) c.many_vars-2.ensures
