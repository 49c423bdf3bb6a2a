-- Analysis that passes says that each call passes what its function takes.
-- Assumes nothing.
use Rattle.std.specs.Prelude.{◌≡◌, refl, ℕ, zero, suc, eqb, length, None, Option, Some}
use Rattle.std.proofs.Common.{sym, ap, subst, ◌∙◌, eqb-true}
use mathlib.Core.List.{List, [], ◌∷◌}
use Rattle.std.proofs.lemmas.List.{length-map}
use Rattle.rules.specs.Bytes.{Name}
use Rattle.rules.specs.Tables.{or_else, last, mapped}
use Rattle.rules.specs.Tree.{Expr, Exprs, Inits, Stmt, Stmts, Struct, Function, Contract}
use Rattle.rules.specs.Types.{Typ, Env}
use Rattle.rules.specs.Refusal.{Res, ok, bad}
use Rattle.rules.specs.Builtins.{Builtin, builtin, arity}
use Rattle.rules.specs.Analyse.{sig, sig_of, repeated, Arg, Misfit, fits, fitted, applied, function_name, signature, expr, exprs, inits, stmt, stmts, function, functions, analyse}
use Rattle.heights.specs.Fits.{size, Passes, Fits, ExprsFit, InitsFit, StmtFits, StmtsFit}
use Rattle.bounds.specs.Answers.{All, all_ok, all_bad, all_bind, all_next, all_test, all_map}
use Rattle.heights.specs.Checks.{BodiesFit, Takes}

-- Of an answer of which nothing need be known.
all_some : {A : Type 0} {P : A → Type 0} (m : Res A) → ((a : A) → P a) → All P m
all_some (ok a) f = all_ok a (f a)
all_some (bad r) f = all_bad r

-- A call of a name takes one number.
pub takes_one : (fs : List Function) (x : Name) (n m : ℕ) → Takes fs x n → Takes fs x m → n ≡ m
takes_one fs x n m (f, p, q) (g, r, t) = let e : f ≡ g = cc in sym q ∙ ap (λ (h : Function). length h.params) e ∙ t

length_repeated : (k : ℕ) → length (repeated k) ≡ k
unfolding repeated
length_repeated zero = refl
length_repeated (suc k) = ap suc (length_repeated k)

-- 001: the argument count is that of the signature
counted : (p : ℕ) (f : Name) (k : ℕ) (m : Option Misfit) (ps : List Typ) (t : Typ) → All (λ (u : Typ). length ps ≡ k) (fitted p f k m ps t)
unfolding fitted
counted p f k m ps t = all_test (eqb (length ps) k) _ _ (λ e. all_some (fits f m t) (λ u. eqb-true (length ps) k e)) (λ e. all_bad _)

-- 001: functions.get, builtins first
passed : (fs : List Function) (p : ℕ) (f : Name) (k : ℕ) (m : Option Misfit) (b : Option Builtin) (o : Option Function) → last function_name f fs ≡ o
    → All (λ (u : Typ). Passes (Takes fs) b f k) (applied p f k m (or_else (mapped (λ (c : Builtin). sig (repeated (arity c)) Typ.u64) b) (mapped sig_of o)))
unfolding applied or_else mapped sig_of
passed fs p f k m (Some b) o e = all_map (counted p f k m _ _) (λ u q. sym (length_repeated (arity b)) ∙ q)
passed fs p f k m None None e = all_bad _
passed fs p f k m None (Some g) e = all_map (counted p f k m _ _) (λ u q. (g, e, sym (length-map g.params _) ∙ q))

module _ (C : Contract) where
  abbrev takes : Name → ℕ → Type 0
  takes = Takes C.functions

  mutual
    unfolding expr exprs inits signature Fits ExprsFit InitsFit size

    expr_fits : (e : Expr) (Γ : Env) → All (λ (t : Typ). Fits takes e) (expr C e Γ)
    expr_fits (Expr.no-expr p) Γ = all_ok _ tt
    expr_fits (Expr.int p v) Γ = all_ok _ tt
    expr_fits (Expr.ident p x) Γ = all_some _ (λ t. tt)
    expr_fits (Expr.storage-read p x) Γ = all_ok _ tt
    expr_fits (Expr.mapping-read p x e) Γ = all_bind (expr C e Γ) _ (expr_fits e Γ) (λ t q. all_ok _ q)
    expr_fits (Expr.field-access p e x) Γ = all_bind (expr C e Γ) _ (expr_fits e Γ) (λ t q. all_some _ (λ u. q))
    expr_fits (Expr.literal p x is) Γ = all_next _ _ (λ s. all_bind (inits C s is Γ) _ (inits_fit s is Γ) (λ t q. all_ok _ q))
    expr_fits (Expr.binary p a o b) Γ =
        all_bind (expr C a Γ) _ (expr_fits a Γ) (λ l pa.
        all_bind (expr C b Γ) _ (expr_fits b Γ) (λ r pb.
        all_some _ (λ t. (pa, pb))))
    expr_fits (Expr.call p f es) Γ =
        all_bind (exprs C es Γ) _ (exprs_fit es Γ) (λ vs q.
        all_map (passed C.functions p f (length vs) _ (builtin f) _ refl) (λ t c. (subst (Passes takes (builtin f) f) q.1 c, q.0)))

    exprs_fit : (es : Exprs) (Γ : Env) → All (λ (vs : List Arg). ExprsFit takes es × (length vs ≡ size es)) (exprs C es Γ)
    exprs_fit Exprs.none Γ = all_ok _ (tt, refl)
    exprs_fit (Exprs.more e es) Γ =
        all_bind (expr C e Γ) _ (expr_fits e Γ) (λ t p.
        all_bind (exprs C es Γ) _ (exprs_fit es Γ) (λ vs q.
        all_ok _ ((p, q.0), ap suc q.1)))

    inits_fit : (s : Struct) (is : Inits) (Γ : Env) → All (λ u. InitsFit takes is) (inits C s is Γ)
    inits_fit s Inits.no-init Γ = all_ok _ tt
    inits_fit s (Inits.init p x e is) Γ =
        all_bind (expr C e Γ) _ (expr_fits e Γ) (λ t q.
        all_next _ _ (λ u. all_map (inits_fit s is Γ) (λ v r. (q, r))))

  module _ (ret : Typ) where
    mutual
      unfolding stmt stmts StmtFits StmtsFit

      stmt_fits : (x : Stmt) (Γ : Env) → All (λ (Δ : Env). StmtFits takes x) (stmt C ret x Γ)
      stmt_fits (Stmt.no-stmt p) Γ = all_ok _ tt
      stmt_fits (Stmt.let-in p x e) Γ = all_bind (expr C e Γ) _ (expr_fits e Γ) (λ t q. all_ok _ q)
      stmt_fits (Stmt.constrain p e) Γ = all_bind (expr C e Γ) _ (expr_fits e Γ) (λ t q. all_ok _ q)
      stmt_fits (Stmt.assign p x e) Γ = all_next _ _ (λ a. all_bind (expr C e Γ) _ (expr_fits e Γ) (λ t q. all_some _ (λ u. q)))
      stmt_fits (Stmt.storage-write p x e) Γ = all_bind (expr C e Γ) _ (expr_fits e Γ) (λ t q. all_ok _ q)
      stmt_fits (Stmt.mapping-write p x e f) Γ =
          all_bind (expr C e Γ) _ (expr_fits e Γ) (λ k pe.
          all_bind (expr C f Γ) _ (expr_fits f Γ) (λ t pf.
          all_ok _ (pe, pf)))
      stmt_fits (Stmt.if-else p c t e) Γ =
          all_bind (expr C c Γ) _ (expr_fits c Γ) (λ k pc.
          all_bind (stmts C ret t Γ) _ (stmts_fit t Γ) (λ Δ pt.
          all_map (stmts_fit e Δ) (λ u pe. (pc, pt, pe))))
      stmt_fits (Stmt.while p c b) Γ =
          all_bind (expr C c Γ) _ (expr_fits c Γ) (λ k pc.
          all_map (stmts_fit b Γ) (λ u pb. (pc, pb)))
      stmt_fits (Stmt.for p x e f b) Γ =
          all_bind (expr C e Γ) _ (expr_fits e Γ) (λ k pe.
          all_bind (expr C f Γ) _ (expr_fits f Γ) (λ t pf.
          all_bind (stmts C ret b _) _ (stmts_fit b _) (λ Δ pb.
          all_ok _ (pe, pf, pb))))
      stmt_fits (Stmt.return p e) Γ = all_bind (expr C e Γ) _ (expr_fits e Γ) (λ t q. all_some _ (λ u. q))
      stmt_fits (Stmt.return-none p) Γ = all_some _ (λ u. tt)
      stmt_fits (Stmt.emits p x es) Γ = all_bind (exprs C es Γ) _ (exprs_fit es Γ) (λ vs q. all_ok _ q.0)
      stmt_fits (Stmt.just p e) Γ = all_bind (expr C e Γ) _ (expr_fits e Γ) (λ t q. all_ok _ q)

      stmts_fit : (xs : Stmts) (Γ : Env) → All (λ (Δ : Env). StmtsFit takes xs) (stmts C ret xs Γ)
      stmts_fit Stmts.none Γ = all_ok _ tt
      stmts_fit (Stmts.more x xs) Γ = all_bind (stmt C ret x Γ) _ (stmt_fits x Γ) (λ Δ px. all_map (stmts_fit xs Δ) (λ u pxs. (px, pxs)))

  -- Function by function.
  bodies_fit : (fs : List Function) → All (λ u. BodiesFit takes fs) (functions C fs)
  unfolding functions function BodiesFit
  bodies_fit [] = all_ok _ tt
  bodies_fit (f ∷ fs) =
      all_bind (function C f) _ (all_bind (stmts C _ f.body _) _ (stmts_fit _ f.body _) (λ Γ q. all_ok _ q)) (λ u q.
      all_map (bodies_fit fs) (λ v r. (q, r)))

-- 001 passed: each call in each body passes what its function takes.
pub analysis_fits : (C : Contract) → All (λ u. BodiesFit (Takes C.functions) C.functions) (analyse C)
unfolding analyse
analysis_fits C = bodies_fit C C.functions
