-- Names in scope: analysis and generation add no more of them than a statement declares, so none has more than 512.
-- Assumes nothing.
use Rattle.std.specs.Prelude.{◌≡◌, List, [], ◌∷◌, ℕ, suc, ◌+◌, ◌≤◌, leb, length}
use Rattle.std.proofs.Common.{arith}
use Rattle.rules.specs.Tree.{Stmt, Stmts, Field, Contract}
use Rattle.rules.specs.Types.{Typ, Env, type_named, clash}
use Rattle.rules.specs.Types as types
use Rattle.rules.specs.Refusal.{Refusal, known}
use Rattle.rules.specs.Analyse.{with_params}
use Rattle.rules.specs.Analyse as analysis
use Rattle.rules.specs.Emit.{Rules, Scope, Done, bind, with_name}
use Rattle.rules.specs.Emit as emit
use Rattle.rules.specs.Generate as generation
use Rattle.rules.specs.Generate.{alloc_reg_lem, slot, logs}
use Rattle.bounds.specs.Answers.{All, all_ok, all_bind, all_next, all_pick, all_unless, all_map}
use Rattle.bounds.specs.Sizes.{vars, vars-stmts}

-- 001: the parameters are the first names.
pub params_env : (ps : List Field) (Γ : Env) → length (with_params ps Γ) ≡ length ps + length Γ
unfolding with_params
params_env [] Γ = omega arith
params_env (p ∷ ps) Γ = omega (arith, params_env ps (types.with_name p.name (type_named p.type) Γ))

-- 001: analyze_stmt
module _ (C : Contract) (ret : Typ) where
  mutual
    unfolding analysis.stmt analysis.stmts vars vars-stmts

    pub stmt_env : (x : Stmt) (Γ : Env) → All (λ (Δ : Env). length Δ ≤ length Γ + vars x) (analysis.stmt C ret x Γ)
    stmt_env (Stmt.no-stmt p) Γ = all_ok Γ (omega arith)
    stmt_env (Stmt.let-in p x e) Γ = all_next (analysis.expr C e Γ) _ (λ t. all_ok (types.with_name x t Γ) (omega arith))
    stmt_env (Stmt.constrain p e) Γ = all_next (analysis.expr C e Γ) _ (λ t. all_ok Γ (omega arith))
    stmt_env (Stmt.assign p x e) Γ =
        all_next (known (Refusal.undefined_target p x) (types.find x Γ)) _ (λ a.
        all_next (analysis.expr C e Γ) _ (λ t. all_unless (clash a t) _ Γ (λ b. omega arith)))
    stmt_env (Stmt.storage-write p x e) Γ = all_next (analysis.expr C e Γ) _ (λ t. all_ok Γ (omega arith))
    stmt_env (Stmt.mapping-write p x e f) Γ = all_next (analysis.expr C e Γ) _ (λ k. all_next (analysis.expr C f Γ) _ (λ t. all_ok Γ (omega arith)))
    stmt_env (Stmt.if-else p c t e) Γ =
        all_next (analysis.expr C c Γ) _ (λ k.
        all_bind (analysis.stmts C ret t Γ) _ (stmts_env t Γ) (λ Δ h.
        all_map (stmts_env e Δ) (λ Θ g. omega arith)))
    stmt_env (Stmt.while p c b) Γ = all_next (analysis.expr C c Γ) _ (λ k. stmts_env b Γ)
    stmt_env (Stmt.for p x e f b) Γ =
        all_next (analysis.expr C e Γ) _ (λ k.
        all_next (analysis.expr C f Γ) _ (λ t.
        all_next (analysis.stmts C ret b (types.with_name x Typ.u64 Γ)) _ (λ Δ. all_ok Γ (omega arith))))
    stmt_env (Stmt.return p e) Γ = all_next (analysis.expr C e Γ) _ (λ t. all_unless (clash ret t) _ Γ (λ b. omega arith))
    stmt_env (Stmt.return-none p) Γ = all_unless (clash ret Typ.void) _ Γ (λ b. omega arith)
    stmt_env (Stmt.emits p x es) Γ = all_next (analysis.exprs C es Γ) _ (λ vs. all_ok Γ (omega arith))
    stmt_env (Stmt.just p e) Γ = all_next (analysis.expr C e Γ) _ (λ t. all_ok Γ (omega arith))

    pub stmts_env : (xs : Stmts) (Γ : Env) → All (λ (Δ : Env). length Δ ≤ length Γ + vars-stmts xs) (analysis.stmts C ret xs Γ)
    stmts_env Stmts.none Γ = all_ok Γ (omega arith)
    stmts_env (Stmts.more x xs) Γ = all_bind (analysis.stmt C ret x Γ) _ (stmt_env x Γ) (λ Δ h. all_map (stmts_env xs Δ) (λ Θ g. omega arith))

-- 000: the parameters are the first names.
pub params_scope : (ps : List Field) (rs : List ℕ) (s : Scope) → length (bind ps rs s) ≤ length ps + length s
unfolding bind
params_scope [] rs s = omega arith
params_scope (p ∷ ps) [] s = omega arith
params_scope (p ∷ ps) (r ∷ rs) s = omega (arith, params_scope ps rs (with_name p.name r s))

-- 000: generate_stmt
module _ (R : Rules) (C : Contract) where
  mutual
    unfolding generation.stmt generation.stmts vars vars-stmts

    pub stmt_scope : (x : Stmt) (s : Scope) (n : ℕ) → All (λ (d : Done). length d.scope ≤ length s + vars x) (generation.stmt R C x s n)
    stmt_scope (Stmt.no-stmt p) s n = all_ok (record { code = []; next = n; scope = s }) (omega arith)
    stmt_scope (Stmt.let-in p x e) s n =
        all_next (generation.expr R C e s n) _ (λ v.
        all_pick (leb n v.reg) _ _ (all_ok _ (omega arith))
        (all_pick R.copies _ _ (all_next (alloc_reg_lem R C p v.next) _ (λ r. all_ok _ (omega arith))) (all_ok _ (omega arith))))
    stmt_scope (Stmt.constrain p e) s n = all_next (generation.expr R C e s n) _ (λ v. all_ok _ (omega arith))
    stmt_scope (Stmt.assign p x e) s n = all_next (generation.expr R C e s n) _ (λ v. all_next (known (Refusal.unassigned p x) (emit.find x s)) _ (λ r. all_ok _ (omega arith)))
    stmt_scope (Stmt.storage-write p x e) s n = all_next (generation.expr R C e s n) _ (λ v. all_next (slot R C (Refusal.storage_unwritten p x) x) _ (λ k. all_ok _ (omega arith)))
    stmt_scope (Stmt.mapping-write p x e f) s n =
        all_next (slot R C (Refusal.mapping_unwritten p x) x) _ (λ k.
        all_next (generation.expr R C e s n) _ (λ v.
        all_next (generation.expr R C f s v.next) _ (λ w.
        all_next (alloc_reg_lem R C p w.next) _ (λ b.
        all_next (alloc_reg_lem R C p (suc b)) _ (λ t. all_ok _ (omega arith))))))
    stmt_scope (Stmt.if-else p c t e) s n =
        all_next (generation.expr R C c s n) _ (λ v.
        all_bind (generation.stmts R C e s n) _ (stmts_scope e s n) (λ a h.
        all_bind (generation.stmts R C t a.scope a.next) _ (stmts_scope t a.scope a.next) (λ b g. all_ok _ (omega arith))))
    stmt_scope (Stmt.while p c b) s n =
        all_next (generation.expr R C c s n) _ (λ v. all_bind (generation.stmts R C b s n) _ (stmts_scope b s n) (λ d h. all_ok _ (omega arith)))
    stmt_scope (Stmt.for p x e f b) s n =
        all_next (generation.expr R C e s n) _ (λ v.
        all_next (generation.expr R C f s v.next) _ (λ w.
        all_next (alloc_reg_lem R C p w.next) _ (λ i.
        all_next (alloc_reg_lem R C p (suc i)) _ (λ c.
        all_next (generation.stmts R C b (with_name x i s) (suc i)) _ (λ d.
        all_next (alloc_reg_lem R C p d.next) _ (λ o. all_ok _ (omega arith)))))))
    stmt_scope (Stmt.return p e) s n = all_next (alloc_reg_lem R C p n) _ (λ t. all_next (generation.expr R C e s (suc t)) _ (λ v. all_ok _ (omega arith)))
    stmt_scope (Stmt.return-none p) s n = all_next (alloc_reg_lem R C p n) _ (λ t. all_next (alloc_reg_lem R C p (suc t)) _ (λ z. all_ok _ (omega arith)))
    stmt_scope (Stmt.emits p x es) s n = all_next (logs R C p es s n) _ (λ l. all_ok _ (omega arith))
    stmt_scope (Stmt.just p e) s n = all_next (generation.expr R C e s n) _ (λ v. all_ok _ (omega arith))

    pub stmts_scope : (xs : Stmts) (s : Scope) (n : ℕ) → All (λ (d : Done). length d.scope ≤ length s + vars-stmts xs) (generation.stmts R C xs s n)
    stmts_scope Stmts.none s n = all_ok (record { code = []; next = n; scope = s }) (omega arith)
    stmts_scope (Stmts.more x xs) s n =
        all_bind (generation.stmt R C x s n) _ (stmt_scope x s n) (λ d h.
        all_bind (generation.stmts R C xs d.scope d.next) _ (stmts_scope xs d.scope d.next) (λ e g. all_ok _ (omega arith)))
