-- in_functions meets its contract.
use Rattle.ambiguous.proofs.Walk.{functions_from}
use Rattle.rules.specs.Ambiguous.{first_ambiguous_lem}
use Rattle.rules.specs.Read.{contract_at}
use mathlib.Core.Path.{◌≡◌}
use Rattle.ambiguous.proofs.in_functions.Given as goal

abbrev pub invariant-loop-i : goal.invariant-loop-i
invariant-loop-i l = first_ambiguous_lem (contract_at l.analysed.contract.img.now) ≡ functions_from l.analysed.contract.img.now l.i
