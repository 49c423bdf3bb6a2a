-- Statements of a checked image: read whole, in six bytes a record or more, each Let and For counted, their accesses apart.
-- Assumes nothing.
use Rattle.std.specs.Prelude.{◌≡◌, List}
use Prim.Native.Nat.{ℕ, ◌+◌, ◌*◌, ◌≤◌}
use Rattle.std.proofs.Math.ListN.{length}
use Rattle.rules.specs.Seen.{Sound}
use Rattle.rules.specs.Bytes.{after}
use Rattle.rules.specs.Grammar as due
use Rattle.rules.specs.Grammar.{classes, class_of, statements, parts_of, part_of, due_at}
use Rattle.rules.specs.Check.{record_of}
use Rattle.rules.specs.Tree.{Stmt, Stmts, Contract}
use Rattle.rules.specs.Types.{Typ, Env}
use Rattle.rules.specs.Meant.{of_stmt, of_stmts}
use Rattle.rules.specs.Read.{body_at, stmt_at_lem}
use Rattle.bounds.specs.Sizes.{nodes-stmt, nodes-stmts, vars, vars-stmts}
use Rattle.bounds.specs.Whole.{Complete, WholeStmt, WholeStmts}
use Rattle.bounds.specs.Sparse.{Sparse}

module _ (img : List ℕ) where
  -- What is shown of a statement from p to e, the count going from v to m.
  pub record GoodStmt (p e v m : ℕ) (x : Stmt) : Type 0 where
    pub small : p + 6 * nodes-stmt x ≤ e
    pub whole : WholeStmt img x
    pub count : v + vars x ≤ m
    pub marks : (C : Contract) (ret : Typ) (Γ : Env) → Sparse img p e (of_stmt C ret x Γ)

  -- Of several.
  pub record GoodStmts (p e v m : ℕ) (xs : Stmts) : Type 0 where
    pub small : p + 6 * nodes-stmts xs ≤ e
    pub whole : WholeStmts img xs
    pub count : v + vars-stmts xs ≤ m
    pub marks : (C : Contract) (ret : Typ) (Γ : Env) → Sparse img p e (of_stmts C ret xs Γ)

  -- With l levels left: a statement, and a List of them.
  pub record Level (l : ℕ) : Type 0 where
    pub stmt : (D : ℕ) → l ≤ D → (at end i v q m : ℕ) → end ≤ length img → record_of l img at end due.Statement i v ≡ Sound q m → GoodStmt at (after img at) v m (stmt_at_lem D img at)
    pub stmts : (D : ℕ) → l ≤ D → (at end d i v q m : ℕ) → end ≤ length img → (class_of d).low ≡ 2 → (class_of d).high ≡ 2 → (class_of d).item ≡ due.Statement
        → record_of l img at end d i v ≡ Sound q m → Complete 65536 img at × GoodStmts (at + 6) (after img at) v m (body_at (stmt_at_lem D img) img at)

-- 01: kinds 32 to 42.
pub data Eleven : ℕ → Type 0 where
  e_let : Eleven 32
  e_constrain : Eleven 33
  e_assign : Eleven 34
  e_storage : Eleven 35
  e_mapping : Eleven 36
  e_if : Eleven 37
  e_while : Eleven 38
  e_for : Eleven 39
  e_return : Eleven 40
  e_emit : Eleven 41
  e_expr : Eleven 42
