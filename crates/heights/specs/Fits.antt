-- What generation leans on: each call in a tree passes what its function takes.
-- Assumes nothing.
use Rattle.std.specs.Prelude.{◌≡◌, ℕ, suc, None, Option, Some}
use Rattle.rules.specs.Bytes.{Name}
use Rattle.rules.specs.Tree.{Expr, Exprs, Inits, Stmt, Stmts}
use Rattle.rules.specs.Builtins.{Builtin, builtin, arity}

-- How many arguments there are.
unfoldable pub size : Exprs → ℕ
size Exprs.none = 0
size (Exprs.more e es) = suc (size es)

-- takes f n: a call of f takes n.
module _ (takes : Name → ℕ → Type 0) where
  -- Each call in it passes what its function takes.
  abbrev pub Passes : Option Builtin → Name → ℕ → Type 0
  Passes (Some b) f k = arity b ≡ k
  Passes None f k = takes f k

  unfoldable mutual
    pub Fits : Expr → Type 0
    Fits (Expr.no-expr p) = Unit {0}
    Fits (Expr.int p v) = Unit {0}
    Fits (Expr.ident p x) = Unit {0}
    Fits (Expr.storage-read p x) = Unit {0}
    Fits (Expr.mapping-read p x e) = Fits e
    Fits (Expr.field-access p e x) = Fits e
    Fits (Expr.literal p x is) = InitsFit is
    Fits (Expr.binary p a o b) = Fits a × Fits b
    Fits (Expr.call p f es) = Passes (builtin f) f (size es) × ExprsFit es

    pub ExprsFit : Exprs → Type 0
    ExprsFit Exprs.none = Unit {0}
    ExprsFit (Exprs.more e es) = Fits e × ExprsFit es

    pub InitsFit : Inits → Type 0
    InitsFit Inits.no-init = Unit {0}
    InitsFit (Inits.init p x e is) = Fits e × InitsFit is

  unfoldable mutual
    pub StmtFits : Stmt → Type 0
    StmtFits (Stmt.no-stmt p) = Unit {0}
    StmtFits (Stmt.let-in p x e) = Fits e
    StmtFits (Stmt.constrain p e) = Fits e
    StmtFits (Stmt.assign p x e) = Fits e
    StmtFits (Stmt.storage-write p x e) = Fits e
    StmtFits (Stmt.mapping-write p x e f) = Fits e × Fits f
    StmtFits (Stmt.if-else p c t e) = Fits c × StmtsFit t × StmtsFit e
    StmtFits (Stmt.while p c b) = Fits c × StmtsFit b
    StmtFits (Stmt.for p x e f b) = Fits e × Fits f × StmtsFit b
    StmtFits (Stmt.return p e) = Fits e
    StmtFits (Stmt.return-none p) = Unit {0}
    StmtFits (Stmt.emits p x es) = ExprsFit es
    StmtFits (Stmt.just p e) = Fits e

    pub StmtsFit : Stmts → Type 0
    StmtsFit Stmts.none = Unit {0}
    StmtsFit (Stmts.more x xs) = StmtFits x × StmtsFit xs
