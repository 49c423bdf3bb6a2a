-- `image::grammar::is_ended`: each return by its test.
use borrow.Author.Tests.{eq-eqb, ne_eqb}
use Rattle.rules.specs.Check.{ended}
use Rattle.image.proofs.grammar.is_ended.Goals as goal

pub returns-then-p-end : goal.returns-then-p-end
unfolding ended
returns-then-p-end c = rw (eq-eqb c.args.p c.args.end c.if-p-end.true) c.may_end.ensures

pub returns-else-p-end : goal.returns-else-p-end
unfolding ended
returns-else-p-end c = rw (ne_eqb c.args.p c.args.end c.if-p-end.false)
