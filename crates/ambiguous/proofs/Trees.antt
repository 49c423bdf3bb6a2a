-- The tree that is read at a place, a record at a time.
-- Assumes nothing.
use mathlib.Core.List.{List}
use mathlib.Core.Path.{◌≡◌, refl}
use Prim.Native.Nat.{ℕ, zero, suc, ◌-◌, ◌≤◌, ◌<◌}
use native.Mathlib.Numerals.{sub-one}
use native.Mathlib.Omega.{arith}
use borrow.Author.Tests.{ne_eqb, lt-ltb, le-ltb}
use Rattle.rules.specs.Bytes.{pick, kind_at, inside, after}
use Rattle.rules.specs.Tree.{Expr, Stmt, Stmts}
use Rattle.rules.specs.Read.{Kind, kind_of, expr_as, expr_at, StmtKind, sReturn, sOther, stmt_kind_of, stmt_as, stmt_at_lem, body_at, else_at}

pub at_zero : (d : ℕ) (img : List ℕ) (i : ℕ) → d ≡ 0 → expr_at d img i ≡ Expr.no-expr i
unfolding expr_at
at_zero zero img i e = refl
at_zero (suc d) img i e = absurd (omega arith)

pub at_kind : (d : ℕ) (img : List ℕ) (i k : ℕ) (K : Kind) → (d ≡ 0 → ⊥) → k ≡ kind_at img i → kind_of k ≡ K → expr_at d img i ≡ expr_as K (expr_at (d - 1) img) img i
unfolding expr_at
at_kind zero img i k K h e q = absurd (h refl)
at_kind (suc d) img i k K h e q = rw (← e, q) (simp sub-one)

-- A kind that is none of 002's statements.
pub kind_rest : (k : ℕ) → (k ≡ 32 → ⊥) → (k ≡ 33 → ⊥) → (k ≡ 34 → ⊥) → (k ≡ 35 → ⊥) → (k ≡ 36 → ⊥) → (k ≡ 37 → ⊥) → (k ≡ 38 → ⊥) → (k ≡ 39 → ⊥) → (k ≡ 40 → ⊥) → (k ≡ 41 → ⊥) → (k ≡ 42 → ⊥) → stmt_kind_of k ≡ sOther
unfolding stmt_kind_of pick
kind_rest k a b c d e f g h i j l = simp (ne_eqb _ _ a, ne_eqb _ _ b, ne_eqb _ _ c, ne_eqb _ _ d, ne_eqb _ _ e, ne_eqb _ _ f, ne_eqb _ _ g, ne_eqb _ _ h, ne_eqb _ _ i, ne_eqb _ _ j, ne_eqb _ _ l)

pub stmt_zero : (d : ℕ) (img : List ℕ) (i : ℕ) → d ≡ 0 → stmt_at_lem d img i ≡ Stmt.no-stmt i
unfolding stmt_at_lem
stmt_zero zero img i e = refl
stmt_zero (suc d) img i e = absurd (omega arith)

pub stmt_kind : (d : ℕ) (img : List ℕ) (i k : ℕ) (K : StmtKind) → (d ≡ 0 → ⊥) → k ≡ kind_at img i → stmt_kind_of k ≡ K → stmt_at_lem d img i ≡ stmt_as K (expr_at (d - 1) img) (stmt_at_lem (d - 1) img) img i
unfolding stmt_at_lem
stmt_kind zero img i k K h e q = absurd (h refl)
stmt_kind (suc d) img i k K h e q = rw (← e, q) (simp sub-one)

-- An else, and none.
module _ (f : ℕ → Stmt) (img : List ℕ) where
  module _ (l e : ℕ) {a b : ℕ} (ha : a ≡ l) (hb : b ≡ e) where
    pub else_there : a < b → else_at f img l e ≡ body_at f img l
    unfolding else_at
    else_there h = let z : l < e = rw (← ha, ← hb) h in simp (lt-ltb _ _ z)

    pub else_not : b ≤ a → else_at f img l e ≡ Stmts.none
    unfolding else_at
    else_not h = let z : e ≤ l = rw (← ha, ← hb) h in simp (le-ltb _ _ z)

-- A Return with a value, and one without.
module _ (img : List ℕ) (i : ℕ) {v n : ℕ} (hv : v ≡ inside img i) (hn : n ≡ after img i) (g : ℕ → Expr) (f : ℕ → Stmt) where
  pub return_there : v < n → stmt_as sReturn g f img i ≡ Stmt.return i (g (inside img i))
  unfolding stmt_as
  return_there h = let l : inside img i < after img i = rw (← hv, ← hn) h in simp (lt-ltb _ _ l)

  pub return_not : n ≤ v → stmt_as sReturn g f img i ≡ Stmt.return-none i
  unfolding stmt_as
  return_not h = let l : after img i ≤ inside img i = rw (← hv, ← hn) h in simp (le-ltb _ _ l)
