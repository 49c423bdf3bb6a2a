-- Tables of functions: entries that stand one behind the other, and entries that the law does not tell apart. It knows nothing of a
-- generator.
-- Assumes nothing.
use Rattle.std.specs.Prelude.{◌≡◌, refl, List, [], ◌∷◌, ℕ, zero, suc, ◌≤◌, ◌<◌}
use Rattle.std.proofs.Common.{sym, ap, subst, ◌∙◌, arith}
use Rattle.rules.specs.Machine.{Entry, At, Starts}

-- The functions of the table stand one behind the other, each with a word at least, from index i on to before n.
unfoldable pub Covers : ℕ → ℕ → List Entry → Type 0
Covers i n [] = i ≡ n
Covers i n (e ∷ T) = (e.first ≡ i) × (i < e.past) × Covers e.past n T

-- Every function starts from there on.
low : (i n : ℕ) (T : List Entry) → Covers i n T → (k : ℕ) (e : Entry) → At T k e → i ≤ e.first
unfolding Covers
low i n [] c k e p = absurd p
low i n (x ∷ T) c zero e p = omega (arith, ap (λ (y : Entry). y.first) p)
low i n (x ∷ T) c (suc k) e p = omega (arith, low x.past n T c.2 k e p)

-- No two functions start at one word.
unfoldable pub Apart : List Entry → Type 0
Apart T = (a n m : ℕ) → Starts T a n → Starts T a m → n ≡ m

apart_from : (i n : ℕ) (T : List Entry) → Covers i n T → (k l : ℕ) (d e : Entry) → At T k d → At T l e → d.first ≡ e.first → d.params ≡ e.params
unfolding Covers
apart_from i n [] c k l d e p q s = absurd p
apart_from i n (x ∷ T) c zero zero d e p q s = ap (λ (y : Entry). y.params) (sym p ∙ q)
apart_from i n (x ∷ T) c zero (suc l) d e p q s = absurd (omega (arith, ap (λ (y : Entry). y.first) p, low x.past n T c.2 l e q))
apart_from i n (x ∷ T) c (suc k) zero d e p q s = absurd (omega (arith, ap (λ (y : Entry). y.first) q, low x.past n T c.2 k d p))
apart_from i n (x ∷ T) c (suc k) (suc l) d e p q s = apart_from x.past n T c.2 k l d e p q s

-- Functions that stand one behind the other start apart.
pub apart : (i n : ℕ) (T : List Entry) → Covers i n T → Apart T
unfolding Apart
apart i n T c a x y (k, d, p, q, r) (l, e, s, t, u) = sym r ∙ apart_from i n T c k l d e p s (q ∙ sym t) ∙ u

-- Entries that the law does not tell apart: place and name are not looked at.
abbrev pub Like : Entry → Entry → Type 0
Like e d = (e.first ≡ d.first) × (e.params ≡ d.params) × (e.past ≡ d.past)

-- Tables of such entries.
unfoldable pub Alike : List Entry → List Entry → Type 0
Alike [] [] = Unit {0}
Alike [] (d ∷ U) = ⊥
Alike (e ∷ T) [] = ⊥
Alike (e ∷ T) (d ∷ U) = Like e d × Alike T U

-- Both ways.
pub like_back : (e d : Entry) → Like e d → Like d e
like_back e d (p, q, r) = (sym p, sym q, sym r)

pub alike_back : (T U : List Entry) → Alike T U → Alike U T
unfolding Alike
alike_back [] [] a = tt
alike_back [] (d ∷ U) a = a
alike_back (e ∷ T) [] a = a
alike_back (e ∷ T) (d ∷ U) (l, a) = (like_back e d l, alike_back T U a)

-- The entry at an index has its like there.
pub alike_at : (T U : List Entry) → Alike T U → (k : ℕ) (e : Entry) → At T k e → (d : Entry) × At U k d × Like e d
unfolding Alike
alike_at [] U a k e p = absurd p
alike_at (x ∷ T) [] a k e p = absurd a
alike_at (x ∷ T) (d ∷ U) a zero e p = (d, refl, subst (λ (y : Entry). Like y d) p a.0)
alike_at (x ∷ T) (d ∷ U) a (suc k) e p = alike_at T U a.1 k e p

-- A first word by one table is one by the other.
pub alike_starts : (T U : List Entry) → Alike T U → (t n : ℕ) → Starts T t n → Starts U t n
alike_starts T U a t n (k, e, p, q, r) = let (d, s, l) = alike_at T U a k e p in (k, d, s, sym l.0 ∙ q, sym l.1 ∙ r)
