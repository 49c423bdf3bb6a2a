-- apply_to meets its contract.
use mathlib.Core.Logic.{inl, inr}
use Rattle.lookup.specs.Answers.{fault_of, ret_of, sig_at, typed_of}
use Rattle.rules.specs.Analyse.{applied, params_of}
use Rattle.lookup.proofs.apply_to.Goals as goal

pub returns-in-Undefined : goal.returns-in-Undefined
unfolding typed_of fault_of sig_at applied
returns-in-Undefined c = rw c.in-Undefined.is

pub returns-in-Builtin : goal.returns-in-Builtin
unfolding sig_at applied params_of ret_of
returns-in-Builtin c = elim c.in-Builtin.is [ inl e ↦ rw e.1 (rw e.1 at c.fit_call.ensures) | inr e ↦ rw e.1 (rw e.1 at c.fit_call.ensures) ]
