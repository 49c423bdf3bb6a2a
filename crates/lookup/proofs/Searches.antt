-- The search of records by name: what is sought from here on, and else what was found before.
use Rattle.std.specs.Prelude.{Option, None, Some}
use mathlib.Core.List.{List, [], ◌∷◌, map}
use mathlib.Core.Path.{◌≡◌, refl, sym}
use Prim.Native.Nat.{ℕ, suc, ◌+◌}
use native.Mathlib.Numerals.{add-one}
use Rattle.rules.specs.Bytes.{pick, Name, eq_name}
use Rattle.rules.specs.Tables.{or_else, last, first_index}

or_or : {A : Type 0} (a b c : Option A) → or_else (or_else a b) c ≡ or_else a (or_else b c)
unfolding or_else
or_or (Some a) b c = refl
or_or None b c = refl

pub or_none : {A : Type 0} (a : Option A) → or_else a None ≡ a
unfolding or_else
or_none (Some a) = refl
or_none None = refl

pub last_step : {A : Type 0} (n : A → Name) (x : Name) (a : A) (t l : List A) (b b' : Option A) → l ≡ a ∷ t → b' ≡ or_else (pick (eq_name (n a) x) (Some a) None) b → or_else (last n x l) b ≡ or_else (last n x t) b'
unfolding last
last_step n x a t l b b' e h = rw (e, h) (or_or (last n x t) (pick (eq_name (n a) x) (Some a) None) b)

pub last_end : {A : Type 0} (n : A → Name) (x : Name) (l : List A) (b : Option A) → l ≡ [] → or_else (last n x l) b ≡ b
unfolding last or_else
last_end n x l b e = rw e refl

-- the first one: what was found before, and else what is sought from here on
pub first_step : {A : Type 0} (n : A → Name) (x : Name) (a : A) (t l : List A) (i : ℕ) (b b' : Option ℕ) → l ≡ a ∷ t → b' ≡ or_else b (pick (eq_name (n a) x) (Some i) None)
    → or_else b (first_index n i x l) ≡ or_else b' (first_index n (i + 1) x t)
unfolding first_index
first_step n x a t l i b b' e h = rw (e, h, add-one) (sym (or_or b (pick (eq_name (n a) x) (Some i) None) (first_index n (suc i) x t)))

pub first_end : {A : Type 0} (n : A → Name) (x : Name) (l : List A) (i : ℕ) (b : Option ℕ) → l ≡ [] → or_else b (first_index n i x l) ≡ b
unfolding first_index
first_end n x l i b e = rw e (or_none b)

-- the same over what is read at places
pub first_map : {A : Type 0} (f : ℕ → A) (n : A → Name) (m : ℕ → Name) → ((p : ℕ) → n (f p) ≡ m p) → (x : Name) (i : ℕ) (ps : List ℕ) → first_index n i x (map f ps) ≡ first_index m i x ps
unfolding first_index
first_map f n m e x i [] = refl
first_map f n m e x i (p ∷ ps) = rw (first_map f n m e x (suc i) ps, e p)
