-- What is due as one number: its lowest five bits are the first part, and the rest is the row behind it; of a List it is what the List
-- holds, with how many more above it.
-- Assumes nothing.
use mathlib.Core.Path.{◌≡◌, ◌∙◌, refl, sym, ap}
use mathlib.Core.Bool.{Bool, true, false}
use mathlib.Core.List.{List, [], ◌∷◌}
use Prim.Native.Nat.{ℕ, zero, suc, ◌+◌, ◌-◌, ◌*◌, ◌/◌, ◌%◌, ◌≤◌, ◌<◌, zero-le}
use native.Mathlib.Omega.{arith}
use native.Mathlib.Numerals.{add-one}
use borrow.Author.Tests.{le-leb, lt-leb, lt-ltb, le-ltb, ltb-false, leb-true, eqb-true}
use lib.Dec.{T, leb, ltb, eqb, leb→le}
use lib.ListN.{get_or, drop}
use Rattle.rules.specs.Bytes.{pick, ◌or◌, ◌and◌}
use Rattle.rules.specs.Grammar.{classes, class_of, records, statements, expressions, parts_of, part_of, due_at}
use Rattle.rules.specs.declared.Class.{Class}
use Rattle.image.specs.Rows.{packed, listed, dues_of, further, full}
use Rattle.image.proofs.Every.{by_cases, both, every_at, truth}

-- Every part is at most 17.
abbrev small : List ℕ → Bool
small [] = true
small (x ∷ xs) = leb x 17 and small xs

part_small : (xs : List ℕ) (i : ℕ) → T (small xs) → get_or xs i 0 ≤ 17
part_small [] i h = zero-le
part_small (x ∷ xs) zero h = leb→le x 17 (both (leb x 17) (small xs) h).0
part_small (x ∷ xs) (suc i) h = part_small xs i (both (leb x 17) (small xs) h).1

head : (xs : List ℕ) (i : ℕ) → T (small xs) → packed (drop i xs) % 32 ≡ get_or xs i 0
unfolding packed
head [] zero h = refl
head [] (suc i) h = refl
head (x ∷ xs) zero h = let l = leb→le x 17 (both (leb x 17) (small xs) h).0 in omega arith
head (x ∷ xs) (suc i) h = head xs i (both (leb x 17) (small xs) h).1

tail : (xs : List ℕ) (i : ℕ) → T (small xs) → packed (drop i xs) / 32 ≡ packed (drop (suc i) xs)
unfolding packed
tail [] zero h = refl
tail [] (suc i) h = refl
tail (x ∷ xs) zero h = let l = leb→le x 17 (both (leb x 17) (small xs) h).0 in omega arith
tail (x ∷ xs) (suc i) h = tail xs i (both (leb x 17) (small xs) h).1

-- The grammar's rows are such.
abbrev all_small : List (List ℕ) → Bool
all_small [] = true
all_small (l ∷ ls) = small l and all_small ls

row_small : (t : List (List ℕ)) (n : ℕ) → T (all_small t) → T (small (get_or t n []))
row_small [] n h = tt
row_small (l ∷ ls) zero h = (both (small l) (all_small ls) h).0
row_small (l ∷ ls) (suc n) h = row_small ls n (both (small l) (all_small ls) h).1

either : (b : Bool) (x y : List ℕ) → T (small x) → T (small y) → T (small (pick b x y))
unfolding pick
either true x y p q = p
either false x y p q = q

parts_small : (k : ℕ) → T (small (parts_of k))
unfolding parts_of expressions statements records
parts_small k =
    either (leb 64 k) (get_or expressions (k - 64) []) _ (row_small expressions (k - 64) tt)
    (either (leb 32 k) (get_or statements (k - 32) []) _ (row_small statements (k - 32) tt)
    (either (leb 16 k) (get_or records (k - 16) []) [] (row_small records (k - 16) tt) tt))

-- What a List holds is from 18 to 27, or nothing.
abbrev item_right : ℕ → Bool
item_right x = eqb x 0 or leb 18 x and leb x 27

abbrev items_right : List Class → Bool
items_right [] = true
items_right (c ∷ cs) = item_right c.item and items_right cs

items_at : (cs : List Class) (d : ℕ) (c : Class) → T (items_right cs) → T (item_right c.item) → T (item_right (get_or cs d c).item)
items_at [] d c h l = l
items_at (x ∷ xs) zero c h l = (both (item_right x.item) (items_right xs) h).0
items_at (x ∷ xs) (suc d) c h l = items_at xs d c (both (item_right x.item) (items_right xs) h).1 l

item_is : (d : ℕ) → T (item_right (class_of d).item)
unfolding class_of
item_is d = items_at classes d _ tt tt

item_by : (x : ℕ) (a b c : Bool) → eqb x 0 ≡ a → leb 18 x ≡ b → leb x 27 ≡ c → T (a or b and c) → (x ≤ 27) × ((x ≡ 0 → ⊥) → 18 ≤ x)
item_by x true b c e f g t = let z = eqb-true x 0 e in (omega arith, λ n. absurd (n z))
item_by x false true true e f g t = (leb-true x 27 g, λ n. leb-true 18 x f)
item_by x false true false e f g t = absurd t
item_by x false false c e f g t = absurd t

item_range : (d : ℕ) → ((class_of d).item ≤ 27) × (((class_of d).item ≡ 0 → ⊥) → 18 ≤ (class_of d).item)
item_range d = let x = (class_of d).item in item_by x (eqb x 0) (leb 18 x) (leb x 27) refl refl refl (item_is d)

-- What stands alone has no bound of its own.
alone_many : (x : ℕ) → x ≤ 17 → (x ≡ 0 → ⊥) → (class_of x).most ≡ 65536
unfolding class_of
alone_many x l z = by x (truth _ (every_at 18 (λ (y : ℕ). eqb y 0 or eqb (get_or classes y (record { low = 0; high = 0; most = 0; must = false; item = 0 })).most 65536) x tt (omega arith))) z
  where
    by : (x : ℕ) → (eqb x 0 or eqb (class_of x).most 65536) ≡ true → (x ≡ 0 → ⊥) → (class_of x).most ≡ 65536
    by x t z = go (eqb x 0) refl t
      where
        go : (b : Bool) → eqb x 0 ≡ b → (b or eqb (class_of x).most 65536) ≡ true → (class_of x).most ≡ 65536
        go true e t = absurd (z (eqb-true x 0 e))
        go false e t = eqb-true _ _ t

-- One of a List.
module _ (x i : ℕ) (h : x ≤ 27) where
  listed_first : listed x i % 32 ≡ x
  unfolding listed
  listed_first = let m = (class_of x).most - i in omega arith

  listed_rest : 18 ≤ x → full x (listed x i) ≡ false → further x (listed x i) ≡ listed x (i + 1)
  unfolding listed further full pick
  listed_rest l f =
      let g : 4294967296 ≤ x + 4294967296 * ((class_of x).most - i) = ltb-false (x + 4294967296 * ((class_of x).most - i)) 4294967296 (rw (le-leb 18 x l) at f) in
      rw (le-leb 18 x l) (omega arith)

  listed_full : 18 ≤ x → leb (class_of x).most i ≡ full x (listed x i)
  unfolding listed full
  listed_full l =
      rw (le-leb 18 x l)
      (by_cases (leb (class_of x).most i ≡ ltb (x + 4294967296 * ((class_of x).most - i)) 4294967296) (class_of x).most i
      (λ g. le-leb (class_of x).most i g ∙ sym (lt-ltb (x + 4294967296 * ((class_of x).most - i)) 4294967296 (omega arith)))
      (λ g. lt-leb (class_of x).most i g ∙ sym (le-ltb (x + 4294967296 * ((class_of x).most - i)) 4294967296 (omega arith))))

module _ (d i : ℕ) (xs : List ℕ) (h : T (small xs)) where
  range_by : (b : Bool) → pick b (class_of d).item (get_or xs i 0) < 28
  unfolding pick
  range_by true = let r = item_range d in omega arith
  range_by false = let l = part_small xs i h in omega arith

  first_by : (b : Bool) → pick b (listed (class_of d).item i) (packed (drop i xs)) % 32 ≡ pick b (class_of d).item (get_or xs i 0)
  unfolding pick
  first_by true = listed_first (class_of d).item i (item_range d).0
  first_by false = head xs i h

  rest_by :
      (b : Bool) → (pick b (class_of d).item (get_or xs i 0) ≡ 0 → ⊥) → full (pick b (class_of d).item (get_or xs i 0)) (pick b (listed (class_of d).item i) (packed (drop i xs))) ≡ false
      → further (pick b (class_of d).item (get_or xs i 0)) (pick b (listed (class_of d).item i) (packed (drop i xs))) ≡ pick b (listed (class_of d).item (i + 1)) (packed (drop (i + 1) xs))
  unfolding pick further
  rest_by true z f = listed_rest (class_of d).item i (item_range d).0 ((item_range d).1 z) f
  rest_by false z f =
      rw (lt-leb 18 (get_or xs i 0) (let l = part_small xs i h in omega arith))
      (tail xs i h ∙ ap (λ (n : ℕ). packed (drop n xs)) (sym (add-one i)))

  full_by :
      (b : Bool) → (pick b (class_of d).item (get_or xs i 0) ≡ 0 → ⊥) → i < 65536
      → leb (class_of (pick b (class_of d).item (get_or xs i 0))).most i ≡ full (pick b (class_of d).item (get_or xs i 0)) (pick b (listed (class_of d).item i) (packed (drop i xs)))
  unfolding pick full
  full_by true z l = listed_full (class_of d).item i (item_range d).0 ((item_range d).1 z)
  full_by false z l =
      let s = part_small xs i h in
      rw (alone_many (get_or xs i 0) s z, lt-leb 65536 i l, lt-leb 18 (get_or xs i 0) (omega arith)) refl

module _ (d k i : ℕ) where
  pub due_below : due_at d k i < 28
  unfolding due_at part_of
  due_below = range_by d i (parts_of k) (parts_small k) (eqb k 2)

  -- What is due at the i-th part, and what from the next on.
  pub due_first : dues_of d k i % 32 ≡ due_at d k i
  unfolding dues_of due_at part_of
  due_first = first_by d i (parts_of k) (parts_small k) (eqb k 2)

  pub due_rest : (due_at d k i ≡ 0 → ⊥) → full (due_at d k i) (dues_of d k i) ≡ false → further (due_at d k i) (dues_of d k i) ≡ dues_of d k (i + 1)
  unfolding dues_of due_at part_of
  due_rest = rest_by d i (parts_of k) (parts_small k) (eqb k 2)

  -- Its bound is passed where the number says so.
  pub due_full : (due_at d k i ≡ 0 → ⊥) → i < 65536 → leb (class_of (due_at d k i)).most i ≡ full (due_at d k i) (dues_of d k i)
  unfolding dues_of due_at part_of
  due_full = full_by d i (parts_of k) (parts_small k) (eqb k 2)
