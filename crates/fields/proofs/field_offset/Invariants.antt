-- field_offset meets its contract.
use Rattle.fields.specs.Spots.{positions_from}
use Rattle.rules.specs.Layout.{layouts, positions, first_of}
use Rattle.rules.specs.Read.{contract_at}
use mathlib.Core.Path.{◌≡◌}
use Rattle.fields.proofs.field_offset.Given as goal

abbrev pub invariant-loop-i : goal.invariant-loop-i
invariant-loop-i l = first_of (positions l.name (layouts (contract_at l.contract.img.now).structs)) ≡ first_of (positions_from l.contract.img.now l.name l.i)
