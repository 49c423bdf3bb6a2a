-- The cycle of in_access, in_args, in_expr, in_inits, in_two meets its contracts.
use mathlib.Core.Path.{◌≡◌}
use Prim.Native.Nat.{◌+◌, ◌*◌}
use Rattle.rules.specs.Bytes.{inside, after}
use Rattle.rules.specs.Read.{expr_at, exprs_from, inits_from, contract_at}
use Rattle.rules.specs.Ambiguous.{in_exprs, in_inits_lem}
use Rattle.bounds.specs.Lists.{exprs_of, inits_of}
use Rattle.records.specs.Records.{places_left}
use Rattle.ambiguous.proofs.+in_expr.Given as goal

abbrev pub decreases-in_access : goal.decreases-in_access
decreases-in_access l = 2 * l.d + 1

abbrev pub decreases-in_args : goal.decreases-in_args
decreases-in_args l = 2 * l.d + 1

abbrev pub decreases-in_expr : goal.decreases-in_expr
decreases-in_expr l = 2 * l.d

abbrev pub decreases-in_inits : goal.decreases-in_inits
decreases-in_inits l = 2 * l.d + 1

abbrev pub decreases-in_two : goal.decreases-in_two
decreases-in_two l = 2 * l.d + 1

abbrev pub invariant-in_args-loop-p : goal.invariant-in_args-loop-p
invariant-in_args-loop-p l =
    ((goal.iterator-in_args-loop-p).can_next l.p-iterator × (goal.iterator-in_args-loop-p).is_finite l.p-iterator)
    × (in_exprs (contract_at l.analysed.contract.img.now) (exprs_from l.most (expr_at l.d l.analysed.contract.img.now) l.analysed.contract.img.now (inside l.analysed.contract.img.now l.l) (after l.analysed.contract.img.now l.l)) ≡ in_exprs (contract_at l.analysed.contract.img.now) (exprs_of (expr_at l.d l.analysed.contract.img.now) (places_left l.p-iterator)))

abbrev pub invariant-in_inits-loop-p : goal.invariant-in_inits-loop-p
invariant-in_inits-loop-p l =
    ((goal.iterator-in_inits-loop-p).can_next l.p-iterator × (goal.iterator-in_inits-loop-p).is_finite l.p-iterator)
    × (in_inits_lem (contract_at l.analysed.contract.img.now) (inits_from 64 (expr_at l.d l.analysed.contract.img.now) l.analysed.contract.img.now (inside l.analysed.contract.img.now l.l) (after l.analysed.contract.img.now l.l)) ≡ in_inits_lem (contract_at l.analysed.contract.img.now) (inits_of (expr_at l.d l.analysed.contract.img.now) l.analysed.contract.img.now (places_left l.p-iterator)))
