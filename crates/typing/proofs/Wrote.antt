-- The notes of the accesses, a step at a time.
-- Assumes nothing.
use mathlib.Core.List.{List, [], ◌∷◌}
use mathlib.Core.Path.{◌≡◌, sym, ◌∙◌}
use Prim.Native.Nat.{ℕ}
use Rattle.rules.specs.Bytes.{Name}
use Rattle.rules.specs.Tree.{Expr, Exprs, Inits, Contract}
use Rattle.rules.specs.Types.{Typ, Env}
use Rattle.rules.specs.Refusal.{Res, ok, bad}
use Rattle.rules.specs.Analyse as analysis
use Rattle.rules.specs.Read.{second, expr_at}
use Rattle.bounds.specs.Lists.{exprs_of, inits_of}
use Rattle.rules.specs.Meant.{behind, of_expr, of_exprs, of_inits}
use Rattle.rules.specs.Layout.{declared}
use Rattle.before.specs.Meant.{bad_ok}
use Rattle.notes.specs.Notes.{spot_in_lem, spot_of, marked, written, Wrote}
use Rattle.notes.specs.Left.{written_append}
use Rattle.notes.specs.Wrote.{in_turn}
use Rattle.typing.proofs.Trees.{exprs_more, inits_more}

-- the note of one access, if it is accepted
one_access : (C : Contract) (p : ℕ) (x : Name) (t : Typ) (N₁ : List ℕ) {N₂ : List ℕ} → N₂ ≡ marked N₁ p (spot_in_lem (declared C t) x) → (r : Res Typ) (u : Typ) → r ≡ ok u
    → N₂ ≡ written C N₁ (behind r (λ v. record { place = p; field = x; base = t } ∷ []))
unfolding behind written spot_of
one_access C p x t N₁ g (ok v) u z = g
one_access C p x t N₁ g (bad r) u z = bad_ok r u z

-- behind its base
one_behind : (C : Contract) (p : ℕ) (x : Name) {t : Typ} (N₁ : List ℕ) {N₂ : List ℕ} → N₂ ≡ marked N₁ p (spot_in_lem (declared C t) x) → (o : Res Typ) → ok t ≡ o → (u : Typ) → analysis.access C p t x ≡ ok u
    → N₂ ≡ written C N₁ (behind o (λ s. behind (analysis.access C p s x) (λ v. record { place = p; field = x; base = s } ∷ [])))
unfolding behind
one_behind C p x {t} N₁ g o e u z = rw (← e) (one_access C p x t N₁ g (analysis.access C p t x) u z)

-- 001: FieldAccess
pub access_written : (C : Contract) (p : ℕ) (e : Expr) (x : Name) (Γ : Env) (N : List ℕ) {N₁ N₂ : List ℕ} {t : Typ} (m : Res Typ) → ok t ≡ analysis.expr C e Γ → N₁ ≡ written C N (of_expr C e Γ)
    → ((u : Typ) → m ≡ ok u → N₂ ≡ marked N₁ p (spot_in_lem (declared C t) x)) → m ≡ analysis.access C p t x → Wrote C N N₂ (of_expr C (Expr.field-access p e x) Γ) m
unfolding of_expr
access_written C p e x Γ N {N₁} m o h g q = record { all = λ u z. in_turn C N (of_expr C e Γ) _ h (one_behind C p x N₁ (g u z) (analysis.expr C e Γ) o u (sym q ∙ z)) }

-- Arguments and Inits, one at a time.
module _ (C : Contract) (d : ℕ) (img : List ℕ) (Γ : Env) (N : List ℕ) {N₁ : List ℕ} {ls ms : List ℕ} {p : ℕ} (h : ls ≡ p ∷ ms) where
  pub args_written : N₁ ≡ written C N (of_expr C (expr_at d img p) Γ) → written C N (of_exprs C (exprs_of (expr_at d img) ls) Γ) ≡ written C N₁ (of_exprs C (exprs_of (expr_at d img) ms) Γ)
  unfolding of_exprs
  args_written w = rw (exprs_more (expr_at d img) h, w) (written_append C N _ _)

  pub inits_written : N₁ ≡ written C N (of_expr C (expr_at d img (second img p)) Γ) → written C N (of_inits C (inits_of (expr_at d img) img ls) Γ) ≡ written C N₁ (of_inits C (inits_of (expr_at d img) img ms) Γ)
  unfolding of_inits
  inits_written w = rw (inits_more (expr_at d img) img h, w) (written_append C N _ _)

-- at the end of a list
pub args_all : (C : Contract) (N : List ℕ) (Γ : Env) (es : Exprs) → es ≡ Exprs.none → written C N (of_exprs C es Γ) ≡ N
unfolding of_exprs written
args_all C N Γ es e = rw e

pub inits_all : (C : Contract) (N : List ℕ) (Γ : Env) (is : Inits) → is ≡ Inits.no-init → written C N (of_inits C is Γ) ≡ N
unfolding of_inits written
inits_all C N Γ is e = rw e
