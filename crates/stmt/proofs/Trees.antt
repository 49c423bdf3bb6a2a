-- What is read at a place, case by case.
--     at_none, at_kind           a statement
--     other                      no kind of a statement
--     else_some, else_none       an else; third_is: where it stands
--     value_some, value_none     a Return's value
-- Assumes nothing.
use mathlib.Core.Path.{◌≡◌, refl, ap, ◌∙◌}
use mathlib.Core.List.{List}
use Prim.Native.Nat.{ℕ, zero, suc, ◌-◌, ◌≤◌, ◌<◌}
use native.Mathlib.Numerals.{sub-one}
use native.Mathlib.Omega.{arith}
use borrow.Author.Tests.{ne_eqb, lt-ltb, le-ltb}
use Rattle.rules.specs.Bytes.{pick, kind_at, inside, after}
use Rattle.rules.specs.Tree.{Expr, Stmt, Stmts}
use Rattle.rules.specs.Read.{StmtKind, sReturn, sOther, stmt_kind_of, stmt_as, stmt_at_lem, body_at, else_at, third}
use Rattle.stmt.specs.Runs.{taken}

pub at_none : (d : ℕ) (img : List ℕ) (i : ℕ) → d ≡ 0 → stmt_at_lem d img i ≡ Stmt.no-stmt i
unfolding stmt_at_lem
at_none zero img i e = refl
at_none (suc d) img i e = absurd (omega arith)

pub at_kind : (d : ℕ) (img : List ℕ) (i k : ℕ) (K : StmtKind) → (d ≡ 0 → ⊥) → k ≡ kind_at img i → stmt_kind_of k ≡ K → stmt_at_lem d img i ≡ taken K (d - 1) img i
unfolding stmt_at_lem
at_kind zero img i k K h e q = absurd (h refl)
at_kind (suc d) img i k K h e q = rw (← e, q) (simp sub-one)

pub other : (k : ℕ) → (k ≡ 32 → ⊥) → (k ≡ 33 → ⊥) → (k ≡ 34 → ⊥) → (k ≡ 35 → ⊥) → (k ≡ 36 → ⊥) → (k ≡ 37 → ⊥) → (k ≡ 38 → ⊥) → (k ≡ 39 → ⊥) → (k ≡ 40 → ⊥) → (k ≡ 41 → ⊥) → (k ≡ 42 → ⊥)
    → stmt_kind_of k ≡ sOther
unfolding stmt_kind_of pick
other k a b c d e f g h i j l =
    simp (ne_eqb _ _ a, ne_eqb _ _ b, ne_eqb _ _ c, ne_eqb _ _ d, ne_eqb _ _ e, ne_eqb _ _ f, ne_eqb _ _ g, ne_eqb _ _ h, ne_eqb _ _ i, ne_eqb _ _ j, ne_eqb _ _ l)

pub else_some : (f : ℕ → Stmt) (img : List ℕ) (l e : ℕ) → l < e → else_at f img l e ≡ body_at f img l
unfolding else_at
else_some f img l e h = simp (lt-ltb _ _ h)

pub else_none : (f : ℕ → Stmt) (img : List ℕ) (l e : ℕ) → e ≤ l → else_at f img l e ≡ Stmts.none
unfolding else_at
else_none f img l e h = simp (le-ltb _ _ h)

pub third_is : (img : List ℕ) (i : ℕ) {a b c : ℕ} → a ≡ inside img i → b ≡ after img a → c ≡ after img b → c ≡ third img i
third_is img i p q r = r ∙ ap (after img) (q ∙ ap (after img) p)

pub value_some : (g : ℕ → Expr) (f : ℕ → Stmt) (img : List ℕ) (i : ℕ) → inside img i < after img i → stmt_as sReturn g f img i ≡ Stmt.return i (g (inside img i))
unfolding stmt_as
value_some g f img i h = simp (lt-ltb _ _ h)

pub value_none : (g : ℕ → Expr) (f : ℕ → Stmt) (img : List ℕ) (i : ℕ) → after img i ≤ inside img i → stmt_as sReturn g f img i ≡ Stmt.return-none i
unfolding stmt_as
value_none g f img i h = simp (le-ltb _ _ h)
