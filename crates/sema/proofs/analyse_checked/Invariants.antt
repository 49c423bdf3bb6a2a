-- analyse_checked meets its contract.
use Rattle.rules.specs.Read.{contract_at}
use Rattle.rules.specs.Meant.{accesses}
use Rattle.notes.specs.Notes.{written}
use Rattle.sema.proofs.Functions.{accesses_from, from}
use Rattle.sema.specs.Entry.{analysis}
use lib.ListN.{length}
use mathlib.Core.Path.{◌≡◌}
use Rattle.sema.proofs.analyse_checked.Given as goal

abbrev pub invariant-loop-i : goal.invariant-loop-i
invariant-loop-i l = (length l.env ≡ length l.initial.env) × ((analysis l.contract.img.now ≡ from l.contract.img.now l.i) × (written (contract_at l.contract.img.now) l.initial.notes (accesses (contract_at l.contract.img.now)) ≡ written (contract_at l.contract.img.now) l.notes (accesses_from l.contract.img.now l.i)))
