-- Which struct an access means (02: P2): every access that analysis accepts, in its order, with the type that its base has there. The names
-- in scope are those that Analyse hands on: those of `then` are seen in `else`, Lets stay after If and While, For drops its own.
-- Assumes nothing.
use Rattle.std.specs.Prelude.{List, [], ◌∷◌, ◌++◌, ℕ, eqb}
use Rattle.rules.specs.Bytes.{pick, Name, eq_name, ◌and◌}
use Rattle.rules.specs.Tree.{Expr, Exprs, Inits, Stmt, Stmts, Function, Contract}
use Rattle.rules.specs.Types.{Typ, Env, with_name}
use Rattle.rules.specs.Refusal.{Res, ok, bad}
use Rattle.rules.specs.Analyse as analysis

-- An access to a field, and the analysed type of its base.
pub record Access : Type 0 where
  pub place : ℕ
  pub field : Name
  pub base : Typ

-- What analysis comes to behind this; nothing, where it refused.
unfoldable pub behind : {A : Type 0} → Res A → (A → List Access) → List Access
behind (ok a) f = f a
behind (bad r) f = []

module _ (C : Contract) where
  -- 001: analyze_expr, in its order
  unfoldable mutual
    -- In an expression: an access comes behind those of its base.
    pub of_expr : Expr → Env → List Access
    of_expr (Expr.no-expr p) Γ = []
    of_expr (Expr.int p v) Γ = []
    of_expr (Expr.ident p x) Γ = []
    of_expr (Expr.storage-read p x) Γ = []
    of_expr (Expr.mapping-read p x e) Γ = of_expr e Γ
    of_expr (Expr.field-access p e x) Γ =
        of_expr e Γ ++ behind (analysis.expr C e Γ) (λ t. behind (analysis.access C p t x) (λ u. record { place = p; field = x; base = t } ∷ []))
    of_expr (Expr.literal p x is) Γ = of_inits is Γ
    of_expr (Expr.binary p a o b) Γ = of_expr a Γ ++ of_expr b Γ
    of_expr (Expr.call p f es) Γ = of_exprs es Γ

    -- In arguments, in turn.
    pub of_exprs : Exprs → Env → List Access
    of_exprs Exprs.none Γ = []
    of_exprs (Exprs.more e es) Γ = of_expr e Γ ++ of_exprs es Γ

    -- In the values of a literal, in turn.
    pub of_inits : Inits → Env → List Access
    of_inits Inits.no-init Γ = []
    of_inits (Inits.init p x e is) Γ = of_expr e Γ ++ of_inits is Γ

  -- 001: analyze_stmt, in a function that gives `ret`
  module _ (ret : Typ) where
    unfoldable mutual
      -- In a statement.
      pub of_stmt : Stmt → Env → List Access
      of_stmt (Stmt.no-stmt p) Γ = []
      of_stmt (Stmt.let-in p x e) Γ = of_expr e Γ
      of_stmt (Stmt.constrain p e) Γ = of_expr e Γ
      of_stmt (Stmt.assign p x e) Γ = of_expr e Γ
      of_stmt (Stmt.storage-write p x e) Γ = of_expr e Γ
      of_stmt (Stmt.mapping-write p x e f) Γ = of_expr e Γ ++ of_expr f Γ
      of_stmt (Stmt.if-else p c t e) Γ = of_expr c Γ ++ (of_stmts t Γ ++ behind (analysis.stmts C ret t Γ) (λ Δ. of_stmts e Δ))
      of_stmt (Stmt.while p c b) Γ = of_expr c Γ ++ of_stmts b Γ
      of_stmt (Stmt.for p x e f b) Γ = of_expr e Γ ++ (of_expr f Γ ++ of_stmts b (with_name x Typ.u64 Γ))
      of_stmt (Stmt.return p e) Γ = of_expr e Γ
      of_stmt (Stmt.return-none p) Γ = []
      of_stmt (Stmt.emits p x es) Γ = of_exprs es Γ
      of_stmt (Stmt.just p e) Γ = of_expr e Γ

      -- In a block, in turn.
      pub of_stmts : Stmts → Env → List Access
      of_stmts Stmts.none Γ = []
      of_stmts (Stmts.more s ss) Γ = of_stmt s Γ ++ behind (analysis.stmt C ret s Γ) (λ Δ. of_stmts ss Δ)

  -- 001: analyze_function
  unfoldable pub of_function : Function → List Access
  of_function f = of_stmts (analysis.ret_type f.ret) f.body (analysis.with_params f.params [])

  -- In every function, called or not.
  unfoldable pub of_functions : List Function → List Access
  of_functions [] = []
  of_functions (f ∷ fs) = of_function f ++ of_functions fs

-- Every access of a contract.
unfoldable pub accesses : Contract → List Access
accesses C = of_functions C C.functions

-- The analysed type of the base of the access p to the field x; Unknown where there is no such access. (A place has one record.)
unfoldable pub base_at : (p : ℕ) (x : Name) → List Access → Typ
base_at p x [] = Typ.unknown
base_at p x (a ∷ l) = pick (eqb a.place p and eq_name a.field x) a.base (base_at p x l)
