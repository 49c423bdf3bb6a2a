-- field_of meets its contract.
use mathlib.Core.Path.{◌∙◌}
use mathlib.Core.Logic.{inl, inr}
use Rattle.rules.specs.Analyse.{access}
use Rattle.rules.specs.Layout.{declared}
use Rattle.before.specs.Meant.{bad_ok}
use Rattle.notes.specs.Notes.{spot_in_lem, marked}
use Rattle.lookup.specs.Answers.{fault_of, ty_of, typed_of}
use Rattle.lookup.proofs.field_of.Goals as goal

pub returns-in-Struct : goal.returns-in-Struct
unfolding ty_of
returns-in-Struct c = rw c.in-Struct.is c.struct_field.ensures

pub returns-in-Unknown : goal.returns-in-Unknown
unfolding access ty_of typed_of declared spot_in_lem marked
returns-in-Unknown c = record { types = rw c.in-Unknown.is; notes = λ u h. c.leave.ensures ∙ rw c.in-Unknown.is }

pub returns-in-U64 : goal.returns-in-U64
unfolding access ty_of typed_of fault_of
returns-in-U64 c = elim c.in-U64.is [
  | inl e ↦ record { types = rw e; notes = λ u h. bad_ok _ u h }
  | inr (inl e) ↦ record { types = rw e; notes = λ u h. bad_ok _ u h }
  | inr (inr (inl e)) ↦ record { types = rw e; notes = λ u h. bad_ok _ u h }
  | inr (inr (inr e)) ↦ record { types = rw e; notes = λ u h. bad_ok _ u h }
]
