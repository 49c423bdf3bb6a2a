-- +analyze_stmt meets its contract.
use Rattle.std.specs.Prelude.{Result}
use Prim.Native.Nat.{◌*◌, ◌+◌, ◌≤◌, ℕ}
use Rattle.bounds.specs.Lists.{stmts_of}
use Rattle.records.specs.Records.{places_left}
use Rattle.bounds.specs.Sizes.{vars-stmts}
use Rattle.lookup.specs.Answers.{ty_of}
use Rattle.rules.specs.Read.{body_at, stmt_at_lem}
use Rattle.sema.specs.Steps.{Steps}
use lib.ListN.{length}
use Rattle.lookup.specs.declared.Fault.{Fault}
use mathlib.Core.List.{List}
use mathlib.Core.Path.{◌≡◌}
use Rattle.sema.proofs.+analyze_stmt.Given as goal

abbrev pub decreases-analyze_else : goal.decreases-analyze_else
decreases-analyze_else l = 6 * l.d + 2

abbrev pub decreases-analyze_for : goal.decreases-analyze_for
decreases-analyze_for l = 6 * l.d + 3

abbrev pub decreases-analyze_if : goal.decreases-analyze_if
decreases-analyze_if l = 6 * l.d + 3

abbrev pub decreases-analyze_list : goal.decreases-analyze_list
decreases-analyze_list l = 6 * l.d + 1

abbrev pub decreases-analyze_loop : goal.decreases-analyze_loop
decreases-analyze_loop l = 6 * l.d + 2

abbrev pub decreases-analyze_stmt : goal.decreases-analyze_stmt
decreases-analyze_stmt l = 6 * l.d

abbrev pub decreases-analyze_while : goal.decreases-analyze_while
decreases-analyze_while l = 6 * l.d + 3

abbrev pub invariant-analyze_list-loop-p : goal.invariant-analyze_list-loop-p
invariant-analyze_list-loop-p l =
    ((goal.iterator-analyze_list-loop-p).can_next l.p-iterator × (goal.iterator-analyze_list-loop-p).is_finite l.p-iterator)
    × (l.t + 2 * vars-stmts (stmts_of (stmt_at_lem l.d l.contract.img.now) (places_left l.p-iterator)) ≤ length l.env)
    × (length l.env ≡ length l.initial.env)
    × ((e2 M : List ℕ) (r : Result ℕ Fault) → Steps l.contract.img.now l.env e2 l.notes M l.t r (ty_of l.contract.img.now l.ret) (stmts_of (stmt_at_lem l.d l.contract.img.now) (places_left l.p-iterator))
    → Steps l.contract.img.now l.initial.env e2 l.initial.notes M l.top r (ty_of l.contract.img.now l.ret) (body_at (stmt_at_lem l.d l.contract.img.now) l.contract.img.now l.at))
