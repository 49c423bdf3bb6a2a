-- field_type meets its contract.
use Rattle.std.specs.Prelude.{Some}
use mathlib.Core.Path.{◌∙◌, ap}
use Rattle.rules.specs.Bytes.{name_at}
use Rattle.rules.specs.Tables.{mapped}
use Rattle.lookup.specs.Answers.{got_of}
use Rattle.lookup.specs.Fields.{last_of}
use Rattle.lookup.proofs.Signs.{field_last}
use Rattle.lookup.proofs.field_type.Goals as goal

pub returns-in_err-spot : goal.returns-in_err-spot
unfolding got_of last_of mapped
returns-in_err-spot c = rw c.from_residual.ensures (field_last c.args.img.now (name_at c.args.img.now c.args.x) _ (rw (c.past-list.ensures.0, c.body.ensures.0, c.name.ensures) at c.in_err-spot.ensures).last)

pub returns : goal.returns
unfolding got_of last_of mapped
returns c = ap Some c.declared.ensures ∙ field_last c.args.img.now (name_at c.args.img.now c.args.x) _ (rw (c.past-list.ensures.0, c.body.ensures.0, c.name.ensures) at c.in_ok-spot.ensures).last
