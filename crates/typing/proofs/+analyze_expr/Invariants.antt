-- The cycle {analyze_access, analyze_args, analyze_binary, analyze_call, analyze_expr, analyze_init, analyze_inits, analyze_literal, analyze_mapping}: the needs of each member are in a file of its own.
use Rattle.lookup.specs.Answers.{env_of, due_of, misfit_of}
use Rattle.rules.specs.Analyse.{inits}
use Rattle.rules.specs.Read.{contract_at, expr_at, struct_at}
use Rattle.bounds.specs.Lists.{exprs_of, inits_of}
use Rattle.records.specs.Records.{places_left}
use mathlib.Core.Path.{◌≡◌}
use Prim.Native.Nat.{◌*◌, ◌+◌, ◌≤◌}
use Rattle.rules.specs.Refusal.{◌>>=◌}
use Rattle.rules.specs.Meant.{of_exprs, of_inits}
use Rattle.notes.specs.Notes.{written}
use Rattle.typing.specs.Arguments.{behind, exprs_in, sum_args, inits_in}
use lib.ListN.{drop, length}
use Rattle.typing.proofs.+analyze_expr.Given as goal

abbrev pub decreases-analyze_access : goal.decreases-analyze_access
decreases-analyze_access l = 4 * l.d + 3

abbrev pub decreases-analyze_args : goal.decreases-analyze_args
decreases-analyze_args l = 4 * l.d + 1

abbrev pub decreases-analyze_binary : goal.decreases-analyze_binary
decreases-analyze_binary l = 4 * l.d + 3

abbrev pub decreases-analyze_call : goal.decreases-analyze_call
decreases-analyze_call l = 4 * l.d + 3

abbrev pub decreases-analyze_expr : goal.decreases-analyze_expr
decreases-analyze_expr l = 4 * l.d

abbrev pub decreases-analyze_init : goal.decreases-analyze_init
decreases-analyze_init l = 4 * l.d + 1

abbrev pub decreases-analyze_inits : goal.decreases-analyze_inits
decreases-analyze_inits l = 4 * l.d + 2

abbrev pub decreases-analyze_literal : goal.decreases-analyze_literal
decreases-analyze_literal l = 4 * l.d + 3

abbrev pub decreases-analyze_mapping : goal.decreases-analyze_mapping
decreases-analyze_mapping l = 4 * l.d + 3

abbrev pub invariant-analyze_args-loop-p : goal.invariant-analyze_args-loop-p
invariant-analyze_args-loop-p l =
    ((goal.iterator-analyze_args-loop-p).can_next l.p-iterator × (goal.iterator-analyze_args-loop-p).is_finite l.p-iterator)
    × (l.n + length (places_left l.p-iterator) ≤ l.left)
    × (written (contract_at l.contract.img.now) l.initial.notes (of_exprs (contract_at l.contract.img.now) (exprs_in l.left l.d l.contract.img.now l.l) (env_of l.contract.img.now l.env l.top)) ≡ written (contract_at l.contract.img.now) l.notes (of_exprs (contract_at l.contract.img.now) (exprs_of (expr_at l.d l.contract.img.now) (places_left l.p-iterator)) (env_of l.contract.img.now l.env l.top)))
    × (due_of l.contract.img.now l.due ≡ drop l.n (due_of l.contract.img.now l.initial.due))
    × (sum_args (contract_at l.contract.img.now) (due_of l.contract.img.now l.initial.due) 0 (exprs_in l.left l.d l.contract.img.now l.l) (env_of l.contract.img.now l.env l.top) ≡ (sum_args (contract_at l.contract.img.now) (due_of l.contract.img.now l.initial.due) l.n (exprs_of (expr_at l.d l.contract.img.now) (places_left l.p-iterator)) (env_of l.contract.img.now l.env l.top) >>= behind (misfit_of l.misfit)))

abbrev pub invariant-analyze_inits-loop-p : goal.invariant-analyze_inits-loop-p
invariant-analyze_inits-loop-p l =
    ((goal.iterator-analyze_inits-loop-p).can_next l.p-iterator × (goal.iterator-analyze_inits-loop-p).is_finite l.p-iterator)
    × (written (contract_at l.contract.img.now) l.initial.notes (of_inits (contract_at l.contract.img.now) (inits_in l.d l.contract.img.now l.l) (env_of l.contract.img.now l.env l.top)) ≡ written (contract_at l.contract.img.now) l.notes (of_inits (contract_at l.contract.img.now) (inits_of (expr_at l.d l.contract.img.now) l.contract.img.now (places_left l.p-iterator)) (env_of l.contract.img.now l.env l.top)))
    × (inits (contract_at l.contract.img.now) (struct_at l.contract.img.now l.s) (inits_in l.d l.contract.img.now l.l) (env_of l.contract.img.now l.env l.top) ≡ inits (contract_at l.contract.img.now) (struct_at l.contract.img.now l.s) (inits_of (expr_at l.d l.contract.img.now) l.contract.img.now (places_left l.p-iterator)) (env_of l.contract.img.now l.env l.top))
