-- `may_be_builtin` meets its contract.
use Rattle.expr.proofs.Asked.{no_builtin}
use mathlib.Core.Bool.{true≢false}
use Rattle.expr.proofs.names.may_be_builtin.Goals as goal

pub returns-in-7957689470423363440 : goal.returns-in-7957689470423363440
returns-in-7957689470423363440 c = λ z. absurd (true≢false z)

pub returns-in-8243105117560599405 : goal.returns-in-8243105117560599405
returns-in-8243105117560599405 c = λ z. absurd (true≢false z)

pub returns-in-7305804444525359981 : goal.returns-in-7305804444525359981
returns-in-7305804444525359981 c = λ z. absurd (true≢false z)

pub returns-in-8243102914930764898 : goal.returns-in-8243102914930764898
returns-in-8243102914930764898 c = λ z. absurd (true≢false z)

pub returns-in-7381240851469591926 : goal.returns-in-7381240851469591926
returns-in-7381240851469591926 c = λ z. absurd (true≢false z)

pub returns-in_default : goal.returns-in_default
returns-in_default c = λ z. no_builtin _ c.in_default.in_default-own.rest.0.0.0.0.1 c.in_default.in_default-own.rest.0.0.0.1 c.in_default.in_default-own.rest.0.0.1 c.in_default.in_default-own.rest.0.1 c.in_default.in_default-own.rest.1
