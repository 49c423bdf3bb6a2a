-- Which structs are kept: those after which no other has their name.
--     newest, newest_none     the look-up of a struct's own name tells
-- Assumes nothing.
use Rattle.std.specs.Prelude.{Option, None, Some}
use mathlib.Core.Bool.{Bool, true, false, not}
use mathlib.Core.List.{List, [], ◌∷◌, map}
use mathlib.Core.Path.{◌≡◌, refl, sym}
use Prim.Native.Nat.{ℕ, zero, suc, ◌+◌, ◌≤◌, ◌<◌}
use native.Mathlib.Omega.{arith}
use lib.Dec.{eqb}
use lib.ListN.{length, get_or, drop}
use borrow.Author.Tests.{eq-eqb, ne_eqb}
use Rattle.rules.specs.Bytes.{pick, Name, eq_name, name_at, inside, ◌or◌}
use Rattle.rules.specs.Tables.{or_else, last, last_index}
use Rattle.rules.specs.Tree.{Struct}
use Rattle.rules.specs.Read.{name_in, struct_at}
use Rattle.rules.specs.Layout.{kept}
use Rattle.records.specs.Names.{name_refl}
use Rattle.tables.specs.Listed.{structs_in}
use Rattle.fields.specs.Spots.{Newest}

unfoldable found : {A : Type 0} → Option A → Bool
found (Some a) = true
found None = false

found_else : {A : Type 0} (a b : Option A) → found (or_else a b) ≡ (found a or found b)
unfolding found or_else
found_else (Some a) b = refl
found_else None b = refl

found_pick : {A : Type 0} (b : Bool) (a : A) → found (pick b (Some a) None) ≡ b
unfolding found pick
found_pick true a = refl
found_pick false a = refl

kept_found : (o : Option Struct) (s : Struct) (l : List Struct) → kept o s l ≡ pick (not (found o)) (s ∷ l) l
unfolding kept found pick
kept_found (Some t) s l = refl
kept_found None s l = refl

else_some : (a : Option ℕ) (i : ℕ) (b : Option ℕ) → or_else (or_else a (Some i)) b ≡ or_else a (Some i)
unfolding or_else
else_some (Some a) i b = refl
else_some None i b = refl

lowest : (o : Option ℕ) (t : Bool) (b j : ℕ) → ((k : ℕ) → o ≡ Some k → suc b ≤ k) → or_else o (pick t (Some b) None) ≡ Some j → b ≤ j
unfolding or_else pick
lowest (Some k) t b j f h = let e : k ≡ j = cc in omega (arith, f k refl)
lowest None true b j f h = let e : b ≡ j = cc in omega arith
lowest None false b j f h = absurd (let z : ◌≡◌ {A = ℕ} 0 1 = cc in omega arith)

-- The index that a look-up gives is i where nothing is found behind i.
pointing : (o : Option ℕ) (k i : ℕ) → ((j : ℕ) → o ≡ Some j → suc i ≤ j) → Some k ≡ or_else o (Some i) → not (found o) ≡ eqb k i
unfolding or_else found
pointing (Some j) k i f q = let e : k ≡ j = cc in sym (ne_eqb k i (λ z. omega (arith, f j refl)))
pointing None k i f q = let e : k ≡ i = cc in sym (eq-eqb k i e)

there : (o : Option ℕ) (i : ℕ) → None ≡ or_else o (Some i) → ⊥
unfolding or_else
there (Some j) i q = let z : ◌≡◌ {A = ℕ} 0 1 = cc in omega arith
there None i q = let z : ◌≡◌ {A = ℕ} 0 1 = cc in omega arith

module _ (img : List ℕ) (x : Name) where
  -- By struct or by index: the same names are searched.
  alike : (b : ℕ) (l : List ℕ) → found (last (λ (t : Struct). t.name) x (map (struct_at img) l)) ≡ found (last_index (name_in img) b x l)
  unfolding last last_index struct_at found
  alike b [] = refl
  alike b (p ∷ l) =
      rw (
        found_else (last (λ (t : Struct). t.name) x (map (struct_at img) l)) (pick (eq_name (name_in img p) x) (Some (struct_at img p)) None),
        found_else (last_index (name_in img) (suc b) x l) (pick (eq_name (name_in img p) x) (Some b) None),
        found_pick (eq_name (name_in img p) x) (struct_at img p),
        found_pick (eq_name (name_in img p) x) b,
        alike (suc b) l,
      )

  from : (b j : ℕ) (l : List ℕ) → last_index (name_in img) b x l ≡ Some j → b ≤ j
  unfolding last_index
  from b j [] h = absurd (let z : ◌≡◌ {A = ℕ} 0 1 = cc in omega arith)
  from b j (p ∷ l) h = lowest (last_index (name_in img) (suc b) x l) (eq_name (name_in img p) x) b j (λ k q. from (suc b) k l q) h

  -- A record of the name at index i: only later ones come before it.
  behind : (b i m : ℕ) (l : List ℕ) → m ≡ b + i → i < length l → eq_name (name_in img (get_or l i 0)) x ≡ true
      → last_index (name_in img) b x l ≡ or_else (last_index (name_in img) (suc m) x (drop (suc i) l)) (Some m)
  unfolding last_index pick
  behind b i m [] z h e = absurd (omega arith)
  behind b zero m (p ∷ l) z h e = let y : m ≡ b = omega arith in rw (y, e)
  behind b (suc i) m (p ∷ l) z h e = rw (behind (suc b) i m l (omega arith) (omega arith) e) (else_some (last_index (name_in img) (suc m) x (drop (suc i) l)) m (pick (eq_name (name_in img p) x) (Some b) None))

module _ (img : List ℕ) (i x : ℕ) (h : i < length (structs_in img)) (own : x ≡ inside img (get_or (structs_in img) i 0)) where
  abbrev name : Name
  name = name_in img (get_or (structs_in img) i 0)

  abbrev later : Option ℕ
  later = last_index (name_in img) (suc i) name (drop (suc i) (structs_in img))

  splits : last_index (name_in img) 0 (name_at img x) (structs_in img) ≡ or_else later (Some i)
  splits = rw own (behind img name 0 i i (structs_in img) (omega arith) h (name_refl name))

  pub newest : (k : ℕ) → Some k ≡ last_index (name_in img) 0 (name_at img x) (structs_in img) → Newest img i (eqb k i)
  newest k q = record {
    keeps = λ s l. rw (
      kept_found (last (λ (t : Struct). t.name) name (map (struct_at img) (drop (suc i) (structs_in img)))) s l,
      alike img name (suc i) (drop (suc i) (structs_in img)),
      pointing later k i (λ j. from img name (suc i) j (drop (suc i) (structs_in img))) (rw splits at q),
    );
  }

  pub newest_none : None ≡ last_index (name_in img) 0 (name_at img x) (structs_in img) → ⊥
  newest_none q = there later i (rw splits at q)
