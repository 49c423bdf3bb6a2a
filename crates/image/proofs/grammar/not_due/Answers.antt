-- `image::grammar::not_due`: each return by its test.
use native.Mathlib.Omega.{arith}
use borrow.Author.Tests.{le-leb, lt-leb}
use Rattle.image.specs.Rows.{off}
use Rattle.image.proofs.grammar.not_due.Goals as goal

pub returns-then-kind-ge72 : goal.returns-then-kind-ge72
unfolding off
returns-then-kind-ge72 c = rw (le-leb 72 c.args.kind (omega arith))

pub returns : goal.returns
unfolding off
returns c = rw (lt-leb 72 c.args.kind (omega arith))
