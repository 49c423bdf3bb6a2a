-- The cycle of in_body, in_for, in_if, in_stmt, in_while, then_body meets its contracts.
use mathlib.Core.Path.{◌≡◌}
use Prim.Native.Nat.{◌+◌, ◌*◌}
use Rattle.rules.specs.Read.{stmt_at_lem, body_at, contract_at}
use Rattle.rules.specs.Ambiguous.{in_stmts}
use Rattle.bounds.specs.Lists.{stmts_of}
use Rattle.records.specs.Records.{places_left}
use Rattle.ambiguous.proofs.+in_stmt.Given as goal

abbrev pub decreases-in_body : goal.decreases-in_body
decreases-in_body l = 4 * l.d + 1

abbrev pub decreases-in_for : goal.decreases-in_for
decreases-in_for l = 4 * l.d + 3

abbrev pub decreases-in_if : goal.decreases-in_if
decreases-in_if l = 4 * l.d + 3

abbrev pub decreases-in_stmt : goal.decreases-in_stmt
decreases-in_stmt l = 4 * l.d

abbrev pub decreases-in_while : goal.decreases-in_while
decreases-in_while l = 4 * l.d + 3

abbrev pub decreases-then_body : goal.decreases-then_body
decreases-then_body l = 4 * l.d + 2

abbrev pub invariant-in_body-loop-p : goal.invariant-in_body-loop-p
invariant-in_body-loop-p l =
    ((goal.iterator-in_body-loop-p).can_next l.p-iterator × (goal.iterator-in_body-loop-p).is_finite l.p-iterator)
    × (in_stmts (contract_at l.analysed.contract.img.now) (body_at (stmt_at_lem l.d l.analysed.contract.img.now) l.analysed.contract.img.now l.l) ≡ in_stmts (contract_at l.analysed.contract.img.now) (stmts_of (stmt_at_lem l.d l.analysed.contract.img.now) (places_left l.p-iterator)))
