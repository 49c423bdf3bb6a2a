-- is_ambiguous meets its contract.
use Rattle.ambiguous.proofs.Clashes.{remains}
use Rattle.fields.specs.Spots.{positions_from}
use Rattle.ambiguous.specs.Spots.{unsure}
use Rattle.rules.specs.Read.{contract_at}
use mathlib.Core.Path.{◌≡◌}
use Rattle.ambiguous.proofs.apart.is_ambiguous.Given as goal

abbrev pub invariant-loop-i : goal.invariant-loop-i
invariant-loop-i l = unsure (contract_at l.contract.img.now) l.name ≡ remains l.first (positions_from l.contract.img.now l.name l.i)
