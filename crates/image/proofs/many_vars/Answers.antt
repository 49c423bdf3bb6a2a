-- `image::many_vars`: each return by its test.
use mathlib.Core.Path.{◌∙◌}
use borrow.Author.Tests.{le-leb, lt-leb}
use Rattle.rules.specs.Check.{counts}
use Rattle.image.proofs.Header.{and_false, and_true}
use Rattle.image.proofs.many_vars.Goals as goal

pub returns-then-vars-lt512 : goal.returns-then-vars-lt512
returns-then-vars-lt512 c = rw (lt-leb 512 c.args.vars c.if-vars-lt512.true) (and_false (counts c.args.d c.args.kind))

pub returns : goal.returns
returns c = rw (le-leb 512 c.args.vars c.if-vars-lt512.false) (c.is_var.ensures ∙ and_true (counts c.args.d c.args.kind))
