-- dues meets its contract.
use Rattle.lookup.proofs.Signs.{user_dues}
use Rattle.lookup.specs.Answers.{due_of, sig_at}
use Rattle.rules.specs.Analyse.{params_of, repeated}
use Rattle.lookup.proofs.dues.Goals as goal

pub returns-in-Builtin : goal.returns-in-Builtin
unfolding due_of sig_at params_of
returns-in-Builtin c = rw c.in-Builtin.is

pub returns-in-User : goal.returns-in-User
unfolding due_of
returns-in-User c = rw (c.in-User.is, c.body-in-User.ensures.0, c.past.ensures.0, c.past-list.ensures.0, c.body.ensures.0) (user_dues c.args.img.now _)

pub returns-in-Undefined : goal.returns-in-Undefined
unfolding due_of sig_at params_of repeated
returns-in-Undefined c = rw c.in-Undefined.is
