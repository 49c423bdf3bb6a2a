-- ret meets its contract.
use Rattle.lookup.specs.Answers.{ret_of, sig_at, ty_of}
use Rattle.rules.specs.Analyse.{sig_of}
use Rattle.lookup.proofs.ret.Goals as goal

pub returns-in-Builtin : goal.returns-in-Builtin
unfolding sig_at ret_of ty_of
returns-in-Builtin c = rw c.in-Builtin.is

pub returns-in-User : goal.returns-in-User
unfolding sig_at ret_of sig_of
returns-in-User c = rw c.in-User.is c.user_ret.ensures

pub returns-in-Undefined : goal.returns-in-Undefined
unfolding sig_at ret_of ty_of
returns-in-Undefined c = rw c.in-Undefined.is
