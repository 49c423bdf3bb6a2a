-- Elements at indexes, and where a distance leads.
-- Assumes nothing.
use Rattle.std.specs.Prelude.{◌≡◌, refl, List, [], ◌∷◌, ◌++◌, ℕ, zero, suc, ◌+◌, ◌<◌, length}
use Rattle.std.proofs.Common.{sym, subst, ◌∙◌, arith}
use Rattle.rules.specs.Machine.{Imm, At, Lands}

-- One element stands at an index.
pub at_one : {A : Type 0} (l : List A) (i : ℕ) (a b : A) → At l i a → At l i b → a ≡ b
at_one [] i a b p q = absurd p
at_one (x ∷ l) zero a b p q = sym p ∙ q
at_one (x ∷ l) (suc i) a b p q = at_one l i a b p q

-- An index where something stands.
pub at_short : {A : Type 0} (l : List A) (i : ℕ) (a : A) → At l i a → i < length l
at_short [] i a p = absurd p
at_short (x ∷ l) zero a p = omega arith
at_short (x ∷ l) (suc i) a p = omega (arith, at_short l i a p)

-- In front of more.
pub at_left : {A : Type 0} (l m : List A) (i : ℕ) (a : A) → At l i a → At (l ++ m) i a
at_left [] m i a p = absurd p
at_left (x ∷ l) m zero a p = p
at_left (x ∷ l) m (suc i) a p = at_left l m i a p

-- Behind more.
pub at_right : {A : Type 0} (l m : List A) (i k : ℕ) (a : A) → k ≡ length l + i → At m i a → At (l ++ m) k a
at_right [] m i k a e p = subst (λ (j : ℕ). At m j a) (omega arith) p
at_right (x ∷ l) m i zero a e p = absurd (omega arith)
at_right (x ∷ l) m i (suc k) a e p = at_right l m i k a (omega arith) p

-- The words ws stand in the whole from index d on.
abbrev pub Stands : {A : Type 0} → List A → ℕ → List A → Type 0
Stands {A} whole d ws = (i : ℕ) (a : A) → At ws i a → At whole (d + i) a

-- So does their front, and what is behind it.
pub stands_left : {A : Type 0} (whole : List A) (d : ℕ) (l m : List A) → Stands whole d (l ++ m) → Stands whole d l
stands_left whole d l m s i a p = s i a (at_left l m i a p)

pub stands_right : {A : Type 0} (whole : List A) (d e : ℕ) (l m : List A) → e ≡ d + length l → Stands whole d (l ++ m) → Stands whole e m
stands_right whole d e l m q s i a p = subst (λ (j : ℕ). At whole j a) (omega arith) (s (length l + i) a (at_right l m i (length l + i) a refl p))

-- A distance leads to one index.
pub lands_one : (i : ℕ) (d : Imm) (s t : ℕ) → Lands i d s → Lands i d t → s ≡ t
lands_one i (Imm.pos d) s t p q = p ∙ sym q
lands_one i (Imm.neg d) s t p q = omega arith

-- Its end moves with its start.
pub lands_up : (i j : ℕ) (o : Imm) (d k : ℕ) → k ≡ d + i → Lands i o j → Lands k o (d + j)
lands_up i j (Imm.pos n) d k e l = omega arith
lands_up i j (Imm.neg n) d k e l = omega arith
