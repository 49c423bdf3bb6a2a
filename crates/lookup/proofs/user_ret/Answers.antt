-- user_ret meets its contract.
use Rattle.lookup.proofs.Signs.{gives_none, gives_type}
use Rattle.lookup.specs.Answers.{ty_of}
use mathlib.Core.Path.{◌∙◌}
use Rattle.lookup.proofs.user_ret.Goals as goal

pub returns-then-name-past : goal.returns-then-name-past
returns-then-name-past c = rw (c.body-name.ensures.0, c.past-list.ensures.0, c.past-params.ensures.0, c.body.ensures.0) at c.type_at.ensures ∙ gives_type c.args.img.now c.args.p (rw (c.body-name.ensures.0, c.past.ensures.0, c.past-list.ensures.0, c.past-params.ensures.0, c.body.ensures.0) at c.if-name-past.true)

pub returns-else-name-past : goal.returns-else-name-past
unfolding ty_of
returns-else-name-past c = gives_none c.args.img.now c.args.p (rw (c.body-name.ensures.0, c.past.ensures.0, c.past-list.ensures.0, c.past-params.ensures.0, c.body.ensures.0) at c.if-name-past.false)
