-- `builtin_named` meets its contract.
use Rattle.expr.proofs.Asked.{is_poseidon, is_sender, is_nonce, is_number, is_merkle, is_none}
use Rattle.expr.specs.Names.{builtin_of}
use mathlib.Core.Path.{sym, ◌∙◌}
use Rattle.expr.proofs.names.builtin_named.Goals as goal

pub returns-then-not-may_be_builtin : goal.returns-then-not-may_be_builtin
unfolding builtin_of
returns-then-not-may_be_builtin c = sym (c.may_be_builtin.ensures c.if-not-may_be_builtin.true _ (sym c.name_key.ensures))

pub returns-then-is_name : goal.returns-then-is_name
unfolding builtin_of
returns-then-is_name c = is_poseidon _ (sym c.is_name.ensures ∙ c.if-is_name.true)

pub returns-then-is_name-2 : goal.returns-then-is_name-2
unfolding builtin_of
returns-then-is_name-2 c = is_sender _ (sym c.is_name.ensures ∙ c.if-is_name.false) (sym c.is_name-2.ensures ∙ c.if-is_name-2.true)

pub returns-then-is_name-3 : goal.returns-then-is_name-3
unfolding builtin_of
returns-then-is_name-3 c = is_nonce _ (sym c.is_name.ensures ∙ c.if-is_name.false) (sym c.is_name-2.ensures ∙ c.if-is_name-2.false) (sym c.is_name-3.ensures ∙ c.if-is_name-3.true)

pub returns-then-is_name-4 : goal.returns-then-is_name-4
unfolding builtin_of
returns-then-is_name-4 c = is_number _ (sym c.is_name.ensures ∙ c.if-is_name.false) (sym c.is_name-2.ensures ∙ c.if-is_name-2.false) (sym c.is_name-3.ensures ∙ c.if-is_name-3.false) (sym c.is_name-4.ensures ∙ c.if-is_name-4.true)

pub returns-then-is_name-5 : goal.returns-then-is_name-5
unfolding builtin_of
returns-then-is_name-5 c = is_merkle _ (sym c.is_name.ensures ∙ c.if-is_name.false) (sym c.is_name-2.ensures ∙ c.if-is_name-2.false) (sym c.is_name-3.ensures ∙ c.if-is_name-3.false) (sym c.is_name-4.ensures ∙ c.if-is_name-4.false) (sym c.is_name-5.ensures ∙ c.if-is_name-5.true)

pub returns : goal.returns
unfolding builtin_of
returns c = is_none _ (sym c.is_name.ensures ∙ c.if-is_name.false) (sym c.is_name-2.ensures ∙ c.if-is_name-2.false) (sym c.is_name-3.ensures ∙ c.if-is_name-3.false) (sym c.is_name-4.ensures ∙ c.if-is_name-4.false) (sym c.is_name-5.ensures ∙ c.if-is_name-5.false)
