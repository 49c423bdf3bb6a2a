-- struct_field meets its contract.
use Rattle.std.specs.Prelude.{Some}
use mathlib.Core.Path.{◌∙◌, ap, sym}
use Rattle.rules.specs.Analyse.{access, field_of, struct_named}
use Rattle.rules.specs.Bytes.{name_at}
use Rattle.rules.specs.Read.{contract_at}
use Rattle.rules.specs.Tables.{mapped}
use Rattle.tables.specs.Carried.{struct_is}
use Rattle.tables.specs.Listed.{place_of}
use Rattle.before.specs.Meant.{bad_ok}
use Rattle.lookup.specs.Answers.{fault_of, ty_of, typed_of}
use Rattle.lookup.specs.Fields.{first_of, last_of}
use Rattle.lookup.specs.Results.{known_none, known_some, ok_or_some, ok_or_none, handed_on}
use Rattle.lookup.proofs.Fits.{field_declared, field_undeclared}
use Rattle.lookup.proofs.Signs.{field_last}
use Rattle.lookup.proofs.Spots.{spot_in, marked_at, marked_none}
use Rattle.lookup.proofs.struct_field.Goals as goal

pub returns-in_default : goal.returns-in_default
unfolding typed_of ty_of access place_of mapped struct_named
returns-in_default c =
    let none = struct_is c.args.contract.now.img.now c.args.s _ c.in_default.ensures in
    record {
      types = field_undeclared _ _ _ none;
      notes = λ u h. c.leave.ensures ∙ marked_none (contract_at c.args.contract.now.img.now) (name_at c.args.contract.now.img.now c.args.s) (name_at c.args.contract.now.img.now c.args.x) _ _ none;
    }

pub returns-in_err-spot : goal.returns-in_err-spot
unfolding typed_of fault_of access field_of struct_named place_of mapped last_of
returns-in_err-spot c =
    let e = ok_or_none c.field_spot.result _ c.in_err-spot.ensures.value in
    rw (handed_on _ _ c.from_residual.ensures.1, e.1) (record {
      types = field_declared _ _ _ (struct_is c.args.contract.now.img.now c.args.s _ c.in-Some.ensures)
          (known_none _ (field_last c.args.contract.now.img.now (name_at c.args.contract.now.img.now c.args.x) _ (ap last_of e.0 ∙ (rw (c.past-list.ensures.0, c.body.ensures.0, c.name.ensures) at c.field_spot.ensures).last)));
      notes = λ u h. bad_ok _ u h;
    })

pub set-requires : goal.set-requires
unfolding first_of
set-requires c =
    let e = ok_or_some c.field_spot.result _ c.in_ok-spot.ensures.value in
    c.field_spot.ensures.below _ (ap first_of (sym e))

pub returns : goal.returns
unfolding typed_of access field_of struct_named place_of mapped first_of last_of
returns c =
    let e = ok_or_some c.field_spot.result _ c.in_ok-spot.ensures.value in
    let spot = rw (c.past-list.ensures.0, c.body.ensures.0, c.name.ensures) at c.field_spot.ensures in
    let found = struct_is c.args.contract.now.img.now c.args.s _ c.in-Some.ensures in
    record {
      types = field_declared _ _ _ found (known_some _ (ap Some c.declared.ensures ∙ field_last c.args.contract.now.img.now (name_at c.args.contract.now.img.now c.args.x) _ (ap last_of e ∙ spot.last)));
      notes = λ u h. c.set.ensures ∙ marked_at (contract_at c.args.contract.now.img.now) (name_at c.args.contract.now.img.now c.args.s) (name_at c.args.contract.now.img.now c.args.x) _ _ found (spot_in c.args.contract.now.img.now _ (name_at c.args.contract.now.img.now c.args.x) (ap first_of e ∙ spot.first));
    }
