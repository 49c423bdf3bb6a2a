-- How large a tree is: its expressions and statements, and the names that it declares.
-- Assumes nothing.
use Rattle.std.specs.Prelude.{List, [], ◌∷◌, ℕ, suc, ◌+◌, length}
use Rattle.rules.specs.Tree.{Expr, Exprs, Inits, Stmt, Stmts, Function}

-- The records of an expression that are expressions.
unfoldable mutual
  pub nodes : Expr → ℕ
  nodes (Expr.no-expr p) = 1
  nodes (Expr.int p v) = 1
  nodes (Expr.ident p x) = 1
  nodes (Expr.storage-read p x) = 1
  nodes (Expr.mapping-read p x e) = suc (nodes e)
  nodes (Expr.field-access p e x) = suc (nodes e)
  nodes (Expr.literal p x is) = suc (nodes-inits is)
  nodes (Expr.binary p a o b) = suc (nodes a + nodes b)
  nodes (Expr.call p f es) = suc (nodes-exprs es)

  pub nodes-exprs : Exprs → ℕ
  nodes-exprs Exprs.none = 0
  nodes-exprs (Exprs.more e es) = nodes e + nodes-exprs es

  pub nodes-inits : Inits → ℕ
  nodes-inits Inits.no-init = 0
  nodes-inits (Inits.init p x e is) = nodes e + nodes-inits is

-- The same for statements: themselves and the expressions in them.
unfoldable mutual
  pub nodes-stmt : Stmt → ℕ
  nodes-stmt (Stmt.no-stmt p) = 1
  nodes-stmt (Stmt.let-in p x e) = suc (nodes e)
  nodes-stmt (Stmt.constrain p e) = suc (nodes e)
  nodes-stmt (Stmt.assign p x e) = suc (nodes e)
  nodes-stmt (Stmt.storage-write p x e) = suc (nodes e)
  nodes-stmt (Stmt.mapping-write p x e f) = suc (nodes e + nodes f)
  nodes-stmt (Stmt.if-else p c t e) = suc (nodes c + nodes-stmts t + nodes-stmts e)
  nodes-stmt (Stmt.while p c b) = suc (nodes c + nodes-stmts b)
  nodes-stmt (Stmt.for p x e f b) = suc (nodes e + nodes f + nodes-stmts b)
  nodes-stmt (Stmt.return p e) = suc (nodes e)
  nodes-stmt (Stmt.return-none p) = 1
  nodes-stmt (Stmt.emits p x es) = suc (nodes-exprs es)
  nodes-stmt (Stmt.just p e) = suc (nodes e)

  pub nodes-stmts : Stmts → ℕ
  nodes-stmts Stmts.none = 0
  nodes-stmts (Stmts.more x xs) = nodes-stmt x + nodes-stmts xs

-- A function: itself, its parameters and its body.
unfoldable pub nodes_function : Function → ℕ
nodes_function f = suc (length f.params) + nodes-stmts f.body

-- All functions.
unfoldable pub nodes_functions : List Function → ℕ
nodes_functions [] = 0
nodes_functions (f ∷ fs) = nodes_function f + nodes_functions fs

-- The names that a statement declares: its Lets and Fors.
unfoldable mutual
  pub vars : Stmt → ℕ
  vars (Stmt.no-stmt p) = 0
  vars (Stmt.let-in p x e) = 1
  vars (Stmt.constrain p e) = 0
  vars (Stmt.assign p x e) = 0
  vars (Stmt.storage-write p x e) = 0
  vars (Stmt.mapping-write p x e f) = 0
  vars (Stmt.if-else p c t e) = vars-stmts t + vars-stmts e
  vars (Stmt.while p c b) = vars-stmts b
  vars (Stmt.for p x e f b) = suc (vars-stmts b)
  vars (Stmt.return p e) = 0
  vars (Stmt.return-none p) = 0
  vars (Stmt.emits p x es) = 0
  vars (Stmt.just p e) = 0

  pub vars-stmts : Stmts → ℕ
  vars-stmts Stmts.none = 0
  vars-stmts (Stmts.more x xs) = vars x + vars-stmts xs
