-- type_of meets its contract.
use Rattle.lookup.proofs.Sorts.{typ_struct}
use Rattle.lookup.specs.Answers.{ty_of, typ_of}
use Rattle.rules.specs.Bytes.{pick}
use Rattle.lookup.proofs.type_of.Goals as goal

pub returns-in-0 : goal.returns-in-0
unfolding ty_of typ_of pick
returns-in-0 c = λ img. rw c.in-0.is

pub returns-in-1 : goal.returns-in-1
unfolding ty_of typ_of pick
returns-in-1 c = λ img. rw c.in-1.is

pub returns-in-2 : goal.returns-in-2
unfolding ty_of typ_of pick
returns-in-2 c = λ img. rw c.in-2.is

pub returns-in-3 : goal.returns-in-3
unfolding ty_of typ_of pick
returns-in-3 c = λ img. rw c.in-3.is

pub returns-in-4 : goal.returns-in-4
unfolding ty_of typ_of pick
returns-in-4 c = λ img. rw c.in-4.is

pub returns-in_default : goal.returns-in_default
unfolding ty_of
returns-in_default c = λ img. typ_struct _ _ c.in_default.in_default-own.rest.0.0.0.0.1 c.in_default.in_default-own.rest.0.0.0.1 c.in_default.in_default-own.rest.0.0.1 c.in_default.in_default-own.rest.0.1 c.in_default.in_default-own.rest.1
