-- name_place meets its contract.
use Rattle.lookup.proofs.Sorts.{name_end}
use mathlib.Core.Logic.{inl, inr}
use Rattle.lookup.specs.Answers.{ty_of}
use Rattle.rules.specs.Types.{name_of}
use Rattle.lookup.proofs.name_place.Goals as goal

pub returns-in-Struct : goal.returns-in-Struct
unfolding ty_of name_of
returns-in-Struct c = rw c.in-Struct.is

pub returns-in-U64 : goal.returns-in-U64
unfolding ty_of name_of
returns-in-U64 c =
    let none = name_end c.args.img.now in
    elim c.in-U64.is [ inl e ↦ rw e none | inr (inl e) ↦ rw e none | inr (inr (inl e)) ↦ rw e none | inr (inr (inr (inl e))) ↦ rw e none | inr (inr (inr (inr e))) ↦ rw e none ]
