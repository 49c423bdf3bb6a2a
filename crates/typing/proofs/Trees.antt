-- The tree that is read at a place, a record at a time.
use mathlib.Core.List.{List, [], ◌∷◌}
use mathlib.Core.Path.{◌≡◌, refl}
use Prim.Native.Nat.{ℕ, zero, suc, ◌-◌}
use native.Mathlib.Numerals.{sub-one}
use native.Mathlib.Omega.{arith}
use borrow.Author.Tests.{ne_eqb}
use Rattle.rules.specs.Bytes.{pick, kind_at}
use Rattle.rules.specs.Tree.{Expr, Exprs, Inits, place_of}
use Rattle.rules.specs.Read.{Kind, kInt, kIdent, kStorage, kMapping, kAccess, kLiteral, kBinary, kCall, kOther, kind_of, expr_as, expr_at, name_in, second}
use Rattle.bounds.specs.Lists.{exprs_of, inits_of}

pub at_zero : (d : ℕ) (img : List ℕ) (i : ℕ) → d ≡ 0 → expr_at d img i ≡ Expr.no-expr i
unfolding expr_at
at_zero zero img i e = refl
at_zero (suc d) img i e = absurd (omega arith)

pub at_kind : (d : ℕ) (img : List ℕ) (i k : ℕ) (K : Kind) → (d ≡ 0 → ⊥) → k ≡ kind_at img i → kind_of k ≡ K → expr_at d img i ≡ expr_as K (expr_at (d - 1) img) img i
unfolding expr_at
at_kind zero img i k K h e q = absurd (h refl)
at_kind (suc d) img i k K h e q = rw (← e, q) (simp sub-one)

as_place : (K : Kind) (f : ℕ → Expr) (img : List ℕ) (i : ℕ) → place_of (expr_as K f img i) ≡ i
unfolding expr_as place_of
as_place kInt f img i = refl
as_place kIdent f img i = refl
as_place kStorage f img i = refl
as_place kMapping f img i = refl
as_place kAccess f img i = refl
as_place kLiteral f img i = refl
as_place kBinary f img i = refl
as_place kCall f img i = refl
as_place kOther f img i = refl

pub at_place : (d : ℕ) (img : List ℕ) (i : ℕ) → place_of (expr_at d img i) ≡ i
unfolding expr_at place_of
at_place zero img i = refl
at_place (suc d) img i = as_place (kind_of (kind_at img i)) (expr_at d img) img i

pub kind_other : (k : ℕ) → (k ≡ 64 → ⊥) → (k ≡ 65 → ⊥) → (k ≡ 66 → ⊥) → (k ≡ 67 → ⊥) → (k ≡ 68 → ⊥) → (k ≡ 69 → ⊥) → (k ≡ 70 → ⊥) → (k ≡ 71 → ⊥) → kind_of k ≡ kOther
unfolding kind_of pick
kind_other k a b c d e f g h = simp (ne_eqb _ _ a, ne_eqb _ _ b, ne_eqb _ _ c, ne_eqb _ _ d, ne_eqb _ _ e, ne_eqb _ _ f, ne_eqb _ _ g, ne_eqb _ _ h)

-- The trees at some places: none, or one more
module _ (f : ℕ → Expr) {ps : List ℕ} where
  pub exprs_none : ps ≡ [] → exprs_of f ps ≡ Exprs.none
  unfolding exprs_of
  exprs_none h = rw h

  pub exprs_more : {p : ℕ} {qs : List ℕ} → ps ≡ p ∷ qs → exprs_of f ps ≡ Exprs.more (f p) (exprs_of f qs)
  unfolding exprs_of
  exprs_more h = rw h

  module _ (img : List ℕ) where
    pub inits_none : ps ≡ [] → inits_of f img ps ≡ Inits.no-init
    unfolding inits_of
    inits_none h = rw h

    pub inits_more : {p : ℕ} {qs : List ℕ} → ps ≡ p ∷ qs → inits_of f img ps ≡ Inits.init p (name_in img p) (f (second img p)) (inits_of f img qs)
    unfolding inits_of
    inits_more h = rw h
