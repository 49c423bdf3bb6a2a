-- eq_name is equality of names, and any reading tells names apart.
--     name_refl    a name is itself
--     name_eq      names that eq_name holds equal are equal
--     judged       a test that holds exactly where two names are equal is eq_name
--     apart        names that a reading tells apart are not the same
--     agree        names of one length whose bytes are equal are the same
-- Assumes nothing.
use Rattle.std.specs.Prelude.{[], ◌∷◌, ◌≡◌, refl, Bool, true, false, ℕ, ◌<◌, eqb, length, get_or}
use Rattle.std.proofs.Common.{sym, ap, ◌∙◌, arith, ext_get_or, eq-eqb, eqb-true}
use Rattle.rules.specs.Bytes.{◌and◌, Name, eq_name}

pub name_refl : (a : Name) → eq_name a a ≡ true
unfolding eq_name
name_refl [] = refl
name_refl (x ∷ xs) = rw (eq-eqb x x refl) (name_refl xs)

-- false is not true
pub never : {A : Type 0} → false ≡ true → A
never h = absurd (let z : ◌≡◌ {A = ℕ} 0 1 = cc in omega arith)

both : (a b : Bool) → (a and b) ≡ true → (a ≡ true) × (b ≡ true)
both true b h = (refl, h)
both false b h = never h

pub name_eq : (a b : Name) → eq_name a b ≡ true → a ≡ b
unfolding eq_name
name_eq [] [] h = refl
name_eq [] (y ∷ ys) h = never h
name_eq (x ∷ xs) [] h = never h
name_eq (x ∷ xs) (y ∷ ys) h =
    let p = both (eqb x y) (eq_name xs ys) h in
    ap (λ (k : ℕ). k ∷ xs) (eqb-true x y p.0) ∙ ap (λ (l : Name). y ∷ l) (name_eq xs ys p.1)

same_truth : (a b : Bool) → (a ≡ true → b ≡ true) → (b ≡ true → a ≡ true) → a ≡ b
same_truth true b f g = sym (f refl)
same_truth false true f g = g refl
same_truth false false f g = refl

pub judged : (a b : Name) (t : Bool) → (t ≡ true → a ≡ b) → (a ≡ b → t ≡ true) → t ≡ eq_name a b
judged a b t f g = same_truth t (eq_name a b) (λ e. rw (f e) (name_refl b)) (λ e. g (name_eq a b e))

pub apart : (a b : Name) (f : Name → ℕ) → (f a ≡ f b → ⊥) → false ≡ eq_name a b
apart a b f n = judged a b false (λ h. never h) (λ e. absurd (n (ap f e)))

pub agree : (a b : Name) → length a ≡ length b → ((k : ℕ) → k < length a → get_or a k 0 ≡ get_or b k 0) → true ≡ eq_name a b
agree a b l h = judged a b true (λ _. ext_get_or 0 a b l h) (λ _. refl)
