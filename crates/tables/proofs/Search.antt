-- A list of records searched from its end, one bucket's records.
--     Later      no record from index k on has the name
--     Reached    the search stands at record k - 1
--     Search     the same of whatever is listed at base
--     older      the next record to look at is an earlier one
--     start, skip, hit, miss     the search's first step, its steps and its two ends
-- Assumes nothing.
use Rattle.std.specs.Prelude.{None, Some, Option}
use mathlib.Core.Bool.{Bool, true, false}
use mathlib.Core.List.{List, [], ◌∷◌}
use mathlib.Core.Path.{◌≡◌, refl, sym, ap, ◌∙◌, subst}
use Prim.Native.Nat.{ℕ, zero, suc, ◌+◌, ◌-◌, ◌%◌, ◌≤◌, ◌<◌}
use native.Mathlib.Omega.{arith}
use lib.Dec.{eqb, ltb}
use borrow.Author.Tests.{eqb-true, eqb-false, ltb-true, ltb-false}
use lib.ListN.{length, get_or}
use Rattle.rules.specs.Bytes.{pick, Name, eq_name, name_at}
use Rattle.rules.specs.Tables.{or_else, last, last_index}
use Rattle.rules.specs.Read.{name_in}
use Rattle.records.specs.Keys.{key_of, differ}
use Rattle.records.specs.Cells.{place_in, number_in}
use Rattle.tables.specs.Listed.{bucket_in, Listed, Named, place_of, index_of}

module _ (n : ℕ → Name) (x : Name) where
  abbrev Later : List ℕ → ℕ → Type 0
  Later ps k = (j : ℕ) → k ≤ j → j < length ps → eq_name (n (get_or ps j 0)) x ≡ false

  abbrev Is : List ℕ → ℕ → Option ℕ → Option ℕ → Type 0
  Is ps i p m = (p ≡ last n x ps) × (m ≡ last_index n i x ps)

  none_of : (ps : List ℕ) (i : ℕ) → Later ps 0 → Is ps i None None
  unfolding last last_index or_else pick
  none_of [] i h = (refl, refl)
  none_of (p ∷ ps) i h =
      let r = none_of ps (suc i) (λ j a b. h (suc j) (omega arith) (omega arith)) in
      (rw (← r.0, h 0 (omega arith) (omega arith)), rw (← r.1, h 0 (omega arith) (omega arith)))

  last_of : (ps : List ℕ) (i k m : ℕ) → m ≡ i + k → k < length ps → eq_name (n (get_or ps k 0)) x ≡ true → Later ps (k + 1) → Is ps i (Some (get_or ps k 0)) (Some m)
  unfolding last last_index or_else pick
  last_of [] i k m z l e h = absurd (omega arith)
  last_of (p ∷ ps) i zero m z l e h =
      let r = none_of ps (suc i) (λ j a b. h (suc j) (omega arith) (omega arith)) in
      let y : m ≡ i = omega arith in
      (rw (← r.0, e), rw (← r.1, e, y))
  last_of (p ∷ ps) i (suc k) m z l e h =
      let r = last_of ps (suc i) k m (omega arith) (omega arith) e (λ j a b. h (suc j) (omega arith) (omega arith)) in
      (rw (← r.0), rw (← r.1))

  -- nothing from k on, nor at k - 1, nor from l to k - 1
  down : (ps : List ℕ) (k l : ℕ) → Later ps k → eq_name (n (get_or ps (k - 1) 0)) x ≡ false →
      ((j : ℕ) → l ≤ j → j < k - 1 → eq_name (n (get_or ps j 0)) x ≡ false) → Later ps l
  down ps k l h e g j a b = go (eqb j (k - 1)) (ltb j (k - 1)) refl refl
    where
      go : (u v : Bool) → eqb j (k - 1) ≡ u → ltb j (k - 1) ≡ v → eq_name (n (get_or ps j 0)) x ≡ false
      go true v q w = subst (λ (i : ℕ). eq_name (n (get_or ps i 0)) x ≡ false) (sym (eqb-true j (k - 1) q)) e
      go false true q w = g j a (ltb-true j (k - 1) w)
      go false false q w = h j (omega (arith, eqb-false j (k - 1) q, ltb-false j (k - 1) w)) b

module _ (img : List ℕ) (x : ℕ) where
  -- record k - 1 is of the bucket of the name at x, and no record from k on has that name
  pub record Reached (ps : List ℕ) (k : ℕ) : Type 0 where
    pub within : k ≤ length ps
    pub same : 0 < k → bucket_in img ps (k - 1) ≡ key_of (name_at img x) % 61
    pub past : Later (name_in img) (name_at img x) ps k

  elsewhere : (ps : List ℕ) (j : ℕ) → (bucket_in img ps j ≡ key_of (name_at img x) % 61 → ⊥) → eq_name (name_in img (get_or ps j 0)) (name_at img x) ≡ false
  elsewhere ps j h = differ (name_in img (get_or ps j 0)) (name_at img x) (λ e. h (ap (λ (m : ℕ). m % 61) e))

module _ (img t : List ℕ) (base x : ℕ) where
  abbrev pub Search : ℕ → Type 0
  Search k = (ps : List ℕ) → Listed img t base ps → Reached img x ps k

  pub start : Search (get_or t (base + 1 + key_of (name_at img x) % 61) 0)
  start ps l =
      let w = l.heads (key_of (name_at img x) % 61) (omega arith) in
      record { within = w.within; same = w.same; past = λ j a b. elsewhere img x ps j (w.others j a b) }

  module _ (k : ℕ) (some_left : k ≡ 0 → ⊥) where
    pub older : (ps : List ℕ) → Listed img t base ps → k ≤ length ps → number_in (get_or t (base + 62 + (k - 1)) 0) < k
    older ps l h = omega (arith, (l.links (k - 1) (omega arith)).within)

    module _ (reached : Search k) where
      pub skip : eq_name (name_in img (place_in (get_or t (base + 62 + (k - 1)) 0))) (name_at img x) ≡ false → Search (number_in (get_or t (base + 62 + (k - 1)) 0))
      skip e ps l =
          let r = reached ps l in
          let w = l.links (k - 1) (omega (arith, r.within)) in
          let s = r.same (omega arith) in
          record {
            within = omega (arith, w.within, r.within);
            same = λ h. w.same h ∙ s;
            past = down (name_in img) (name_at img x) ps k (number_in (get_or t (base + 62 + (k - 1)) 0)) r.past (rw (← l.places (k - 1) (omega (arith, r.within))) e)
                (λ j a b. elsewhere img x ps j (λ q. w.others j a b (q ∙ sym s)));
          }

      pub hit : eq_name (name_in img (place_in (get_or t (base + 62 + (k - 1)) 0))) (name_at img x) ≡ true → (ps : List ℕ) → Listed img t base ps →
          Named img x ps (Some (record { index = k - 1; place = place_in (get_or t (base + 62 + (k - 1)) 0) }))
      unfolding place_of index_of
      hit e ps l =
          let r = reached ps l in
          let p = l.places (k - 1) (omega (arith, r.within)) in
          let f = last_of (name_in img) (name_at img x) ps 0 (k - 1) (k - 1) (omega arith) (omega (arith, r.within)) (rw (← p) e) (λ j a b. r.past j (omega arith) b) in
          record { place = rw p f.0; index = f.1 }

  pub miss : (k : ℕ) → k ≡ 0 → Search k → (ps : List ℕ) → Listed img t base ps → Named img x ps None
  unfolding place_of index_of
  miss k z reached ps l =
      let r = none_of (name_in img) (name_at img x) ps 0 (λ j a b. (reached ps l).past j (omega arith) b) in
      record { place = r.0; index = r.1 }
