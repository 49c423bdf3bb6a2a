-- The table of keys and positions.
--     starts, passes_by, free_slot, own_slot     the way to a key's slot
--     put_there, was_there     a position noted
--     begin_fields, one_field, end_fields     the Fields of a struct
--     one_struct, agreed     the structs, and what comes of it
-- Assumes nothing.
use Rattle.std.specs.Prelude.{None, Some, Option}
use mathlib.Core.Bool.{Bool, true, false}
use mathlib.Core.List.{List, [], ◌∷◌, map}
use mathlib.Core.Logic.{◌⊎◌, inl, inr}
use mathlib.Core.Path.{◌≡◌, refl, sym, ◌∙◌}
use Prim.Native.Nat.{ℕ, zero, suc, ◌+◌, ◌-◌, ◌*◌, ◌%◌, ◌≤◌, ◌<◌}
use native.Mathlib.Nat.{mod-lt}
use native.Mathlib.Numerals.{add-one, sub-one}
use native.Mathlib.Omega.{arith}
use lib.Dec.{eqb}
use lib.ListN.{length, get_or, set, length-set}
use lib.Seq.{get_or-set_same, get_or-set_other}
use borrow.Author.Tests.{eq-eqb, ne_eqb, eqb-true, eqb-false}
use Rattle.rules.specs.Bytes.{pick, Name, eq_name}
use Rattle.rules.specs.Tables.{last, first_index}
use Rattle.rules.specs.Tree.{Field, Struct}
use Rattle.rules.specs.Read.{second, places_in, name_in, field_at, fields_at, struct_at, contract_at}
use Rattle.rules.specs.Layout.{kept, layouts, with_position, positions}
use Rattle.rules.specs.Ambiguous.{differs, apart}
use Rattle.records.specs.Keys.{key_of}
use Rattle.records.specs.Names.{name_eq}
use Rattle.tables.specs.Listed.{structs_in}
use Rattle.ambiguous.specs.Spots.{unsure}
use Rattle.ambiguous.specs.Slots.{look, looked, Extends, Slot, Noted, Held}
use Rattle.fields.specs.Steps.{left_none, left_here, left_next}

pub ext_refl : (t : List ℕ) → Extends t t
ext_refl t = record { keys = λ h f. refl; values = λ h f. refl }

pub ext_trans : {t u v : List ℕ} → Extends t u → Extends u v → Extends t v
ext_trans a b = record {
  keys = λ h f. b.keys h (λ z. f (sym (a.values h f) ∙ z)) ∙ a.keys h f;
  values = λ h f. b.values h (λ z. f (sym (a.values h f) ∙ z)) ∙ a.values h f;
}

module _ (t : List ℕ) (key : ℕ) where
  look_hit : (k h : ℕ) → (k ≡ 0 → ⊥) → (get_or t (2 * h + 1) 0 ≡ 0 → ⊥) → get_or t (2 * h) 0 ≡ key → look t key k h ≡ get_or t (2 * h + 1) 0
  unfolding look pick
  look_hit zero h z f e = absurd (z refl)
  look_hit (suc k) h z f e = simp (ne_eqb (get_or t (2 * h + 1) 0) 0 f, eq-eqb (get_or t (2 * h) 0) key e)

  look_past : (k h : ℕ) → (k ≡ 0 → ⊥) → (get_or t (2 * h + 1) 0 ≡ 0 → ⊥) → (get_or t (2 * h) 0 ≡ key → ⊥) → look t key k h ≡ look t key (k - 1) ((h + 1) % 509)
  unfolding look pick
  look_past zero h z f e = absurd (z refl)
  look_past (suc k) h z f e = simp (ne_eqb (get_or t (2 * h + 1) 0) 0 f, ne_eqb (get_or t (2 * h) 0) key e, sub-one)

-- What was found is found in a larger table.
module _ (t u : List ℕ) (key s : ℕ) (x : Extends t u) where
  one_slot : (k h : ℕ) → (look t key k ((h + 1) % 509) ≡ suc s → look u key k ((h + 1) % 509) ≡ suc s)
      → (a : Bool) → eqb (get_or t (2 * h + 1) 0) 0 ≡ a → (b : Bool) → eqb (get_or t (2 * h) 0) key ≡ b → look t key (suc k) h ≡ suc s → look u key (suc k) h ≡ suc s
  unfolding look pick
  one_slot k h r true p b q e = absurd (let z : 0 ≡ suc s = rw p at e in omega arith)
  one_slot k h r false p true q e =
      let f : get_or t (2 * h + 1) 0 ≡ 0 → ⊥ = eqb-false _ _ p in
      let y : get_or t (2 * h + 1) 0 ≡ suc s = rw (p, q) at e in
      look_hit u key (suc k) h (λ z. omega arith) (λ z. f (sym (x.values h f) ∙ z)) (x.keys h f ∙ eqb-true _ _ q) ∙ x.values h f ∙ y
  one_slot k h r false p false q e =
      let f : get_or t (2 * h + 1) 0 ≡ 0 → ⊥ = eqb-false _ _ p in
      let y : look t key k ((h + 1) % 509) ≡ suc s = rw (p, q) at e in
      look_past u key (suc k) h (λ z. omega arith) (λ z. f (sym (x.values h f) ∙ z)) (λ z. eqb-false _ _ q (sym (x.keys h f) ∙ z)) ∙ rw sub-one (r y)

  no_slots : (h : ℕ) → look t key 0 h ≡ suc s → look u key 0 h ≡ suc s
  unfolding look
  no_slots h e = absurd (omega arith)

  grows : (k h : ℕ) → look t key k h ≡ suc s → look u key k h ≡ suc s
  grows zero h e = no_slots h e
  grows (suc k) h e = one_slot k h (grows k ((h + 1) % 509)) (eqb (get_or t (2 * h + 1) 0) 0) refl (eqb (get_or t (2 * h) 0) key) refl e

-- The way to a key's slot: k slots are left from h on.
pub record Way (t : List ℕ) (key k h : ℕ) : Type 0 where
  pub below : h < 509
  pub same : (u : List ℕ) → Extends t u → looked u key ≡ look u key k h

module _ (t : List ℕ) (key : ℕ) where
  pub starts : Way t key 509 (key % 509)
  starts = record { below = mod-lt key (omega arith); same = λ u x. refl }

  module _ (k h : ℕ) (z : k ≡ 0 → ⊥) (w : Way t key k h) where
    pub passes_by : (get_or t (2 * h + 1) 0 ≡ 0 → ⊥) → (get_or t (2 * h) 0 ≡ key → ⊥) → Way t key (k - 1) ((h + 1) % 509)
    passes_by f e = record {
      below = mod-lt (h + 1) (omega arith);
      same = λ u x. w.same u x ∙ look_past u key k h z (λ y. f (sym (x.values h f) ∙ y)) (λ y. e (sym (x.keys h f) ∙ y));
    }

    leads : (u : List ℕ) → Extends t u → get_or u (2 * h) 0 ≡ key → (get_or u (2 * h + 1) 0 ≡ 0 → ⊥) → looked u key ≡ get_or u (2 * h + 1) 0
    leads u x e f = w.same u x ∙ look_hit u key k h z f e

    at : (m : ℕ) → Some h ≡ Some m → h ≡ m
    at m q = let y : Some h ≡ Some m = q in cc

    pub free_slot : get_or t (2 * h + 1) 0 ≡ 0 → (m : ℕ) → Some h ≡ Some m → Slot t key m
    free_slot e m q = rw (← at m q) (record { below = w.below; held = λ f. absurd (f e); leads = leads })

    pub own_slot : get_or t (2 * h) 0 ≡ key → (m : ℕ) → Some h ≡ Some m → Slot t key m
    own_slot e m q = rw (← at m q) (record { below = w.below; held = λ f. e; leads = leads })

pub no_slot : (t : List ℕ) (key m : ℕ) → None ≡ Some m → Slot t key m
no_slot t key m q = let y : None ≡ Some m = q in absurd (let z : ◌≡◌ {A = ℕ} 0 1 = cc in omega arith)

-- The position is noted in the slot, or was there.
module _ (t : List ℕ) (key n h : ℕ) (s : Slot t key h) where
  module _ (size : 1018 ≤ length t) (free : get_or t (2 * h + 1) 0 ≡ 0) where
    abbrev new : List ℕ
    new = set (set t (2 * h) key) (2 * h + 1) (n + 1)

    key_cell : get_or new (2 * h) 0 ≡ key
    key_cell = get_or-set_other (set t (2 * h) key) (2 * h + 1) (2 * h) (n + 1) 0 (λ z. omega arith) ∙ get_or-set_same t (2 * h) key 0 (omega (arith, s.below))

    value_cell : get_or new (2 * h + 1) 0 ≡ n + 1
    value_cell = get_or-set_same (set t (2 * h) key) (2 * h + 1) (n + 1) 0 (simp length-set (omega (arith, s.below)))

    kept_cell : (j : ℕ) → (j ≡ 2 * h → ⊥) → (j ≡ 2 * h + 1 → ⊥) → get_or new j 0 ≡ get_or t j 0
    kept_cell j a b = get_or-set_other (set t (2 * h) key) (2 * h + 1) j (n + 1) 0 b ∙ get_or-set_other t (2 * h) j key 0 a

    other : (j : ℕ) → (get_or t (2 * j + 1) 0 ≡ 0 → ⊥) → j ≡ h → ⊥
    other j f z = f (rw z free)

    grown : Extends t new
    grown = record {
      keys = λ j f. kept_cell (2 * j) (λ z. other j f (omega arith)) (λ z. omega arith);
      values = λ j f. kept_cell (2 * j + 1) (λ z. omega arith) (λ z. other j f (omega arith));
    }

    pub put_there : Noted t new key n
    put_there = record {
      extends = grown;
      is = s.leads new grown key_cell (λ z. omega (arith, value_cell)) ∙ value_cell ∙ add-one n;
    }

  pub was_there : (get_or t (2 * h + 1) 0 ≡ 0 → ⊥) → eqb (get_or t (2 * h + 1) 0) (n + 1) ≡ true → Noted t t key n
  was_there f e = record {
    extends = ext_refl t;
    is = s.leads t (ext_refl t) (s.held f) f ∙ eqb-true _ _ e ∙ add-one n;
  }

-- The Fields of the List at l: each is noted, or among those at the places ps, the first of which is at position n.
module _ (img : List ℕ) (l : ℕ) where
  pub record Told (t : List ℕ) (n : ℕ) (ps : List ℕ) : Type 0 where
    pub each : (x : Name) (m : ℕ) → first_index (λ (f : Field). f.name) 0 x (fields_at 64 img l) ≡ Some m
        → (looked t (key_of x) ≡ suc m) ⊎ (first_index (λ (f : Field). f.name) n x (map (field_at img) ps) ≡ Some m)

  pub begin_fields : (t : List ℕ) → Told t 0 (places_in 64 img l)
  unfolding fields_at
  begin_fields t = record { each = λ x m q. inr q }

  lost : {m : ℕ} → None ≡ Some m → ⊥
  lost q = let z : ◌≡◌ {A = ℕ} 0 1 = cc in omega arith

  module _ (t : List ℕ) (n : ℕ) {ps : List ℕ} where
    pub end_fields : ps ≡ [] → Told t n ps → Held img t l
    end_fields h o = record { at = λ x m q. either x m (o.each x m q) }
      where
        either : (x : Name) (m : ℕ) → (looked t (key_of x) ≡ suc m) ⊎ (first_index (λ (f : Field). f.name) n x (map (field_at img) ps) ≡ Some m) → looked t (key_of x) ≡ suc m
        either x m (inl a) = a
        either x m (inr b) = absurd (lost (left_none img x n h ∙ b))

    module _ (u : List ℕ) {p : ℕ} {qs : List ℕ} (h : ps ≡ p ∷ qs) (o : Told t n ps) (w : Noted t u (key_of (name_in img p)) n) where
      now : (x : Name) (m : ℕ) → (c : Bool) → eq_name (name_in img p) x ≡ c
          → first_index (λ (f : Field). f.name) n x (map (field_at img) ps) ≡ Some m
          → (looked u (key_of x) ≡ suc m) ⊎ (first_index (λ (f : Field). f.name) (n + 1) x (map (field_at img) qs) ≡ Some m)
      now x m true c q =
          let y : Some n ≡ Some m = left_here img x n h c ∙ q in
          let k : n ≡ m = cc in
          inl (rw (← name_eq (name_in img p) x c, ← k) w.is)
      now x m false c q = inr (sym (left_next img x n h c) ∙ q)

      either : (x : Name) (m : ℕ) → (looked t (key_of x) ≡ suc m) ⊎ (first_index (λ (f : Field). f.name) n x (map (field_at img) ps) ≡ Some m)
          → (looked u (key_of x) ≡ suc m) ⊎ (first_index (λ (f : Field). f.name) (n + 1) x (map (field_at img) qs) ≡ Some m)
      either x m (inl a) = inl (grows t u (key_of x) m w.extends 509 (key_of x % 509) a)
      either x m (inr q) = now x m (eq_name (name_in img p) x) refl q

      pub one_field : Told u (n + 1) qs
      one_field = record { each = λ x m q. either x m (o.each x m q) }

-- The structs.
module _ (img : List ℕ) where
  pub still_held : {t u : List ℕ} (l : ℕ) → Extends t u → Held img t l → Held img u l
  still_held {t} {u} l x h = record { at = λ y m q. grows t u (key_of y) m x 509 (key_of y % 509) (h.at y m q) }

  pub one_struct : {t u : List ℕ} (i : ℕ) → ((j : ℕ) → j < i → Held img t (second img (get_or (structs_in img) j 0))) → Extends t u → Held img u (second img (get_or (structs_in img) i 0))
      → (j : ℕ) → j < i + 1 → Held img u (second img (get_or (structs_in img) j 0))
  one_struct {t} {u} i all x h j b = here (eqb j i) refl
    where
      here : (c : Bool) → eqb j i ≡ c → Held img u (second img (get_or (structs_in img) j 0))
      here true q = rw (eqb-true j i q) h
      here false q = still_held (second img (get_or (structs_in img) j 0)) x (all j (omega (arith, eqb-false j i q)))

  abbrev pub AllHeld : List ℕ → List ℕ → Type 0
  AllHeld t ps = (j : ℕ) → j < length ps → Held img t (second img (get_or ps j 0))

  module _ (t : List ℕ) (x : Name) where
    same_differs : (o : Option Struct) (s : Struct) (l : List Struct) (a : ℕ) (m : Option ℕ) → first_index (λ (f : Field). f.name) 0 x s.fields ≡ m
        → ((n : ℕ) → m ≡ Some n → a ≡ n) → differs a (positions x l) ≡ false → differs a (positions x (kept o s l)) ≡ false
    unfolding kept positions with_position differs
    same_differs (Some r) s l a m q f h = h
    same_differs None s l a None q f h = rw q h
    same_differs None s l a (Some n) q f h = rw (q, eq-eqb a n (f n refl)) h

    no_differs : (a : ℕ) (ps : List ℕ) → looked t (key_of x) ≡ suc a → AllHeld t ps → differs a (positions x (layouts (map (struct_at img) ps))) ≡ false
    unfolding layouts positions differs struct_at
    no_differs a [] v h = refl
    no_differs a (p ∷ ps) v h =
        same_differs (last (λ (r : Struct). r.name) (name_in img p) (map (struct_at img) ps)) (struct_at img p) (layouts (map (struct_at img) ps)) a _ refl
        (λ n q. omega (arith, v, (h 0 (omega arith)).at x n q))
        (no_differs a ps v (λ j b. h (suc j) (omega arith)))

    same_apart : (o : Option Struct) (s : Struct) (l : List Struct) (m : Option ℕ) → first_index (λ (f : Field). f.name) 0 x s.fields ≡ m
        → ((n : ℕ) → m ≡ Some n → differs n (positions x l) ≡ false) → apart (positions x l) ≡ false → apart (positions x (kept o s l)) ≡ false
    unfolding kept positions with_position apart
    same_apart (Some r) s l m q f h = h
    same_apart None s l None q f h = rw q h
    same_apart None s l (Some n) q f h = rw q (f n refl)

    no_apart : (ps : List ℕ) → AllHeld t ps → apart (positions x (layouts (map (struct_at img) ps))) ≡ false
    unfolding layouts positions apart struct_at
    no_apart [] h = refl
    no_apart (p ∷ ps) h =
        same_apart (last (λ (r : Struct). r.name) (name_in img p) (map (struct_at img) ps)) (struct_at img p) (layouts (map (struct_at img) ps)) _ refl
        (λ n q. no_differs n ps ((h 0 (omega arith)).at x n q) (λ j b. h (suc j) (omega arith)))
        (no_apart ps (λ j b. h (suc j) (omega arith)))

  pub agreed : (t : List ℕ) → AllHeld t (structs_in img) → (x : Name) → unsure (contract_at img) x ≡ false
  unfolding unsure contract_at
  agreed t h x = no_apart t x (structs_in img) h
