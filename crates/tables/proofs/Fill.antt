-- A List's records listed one after the other.
--     Stored, stored     a record's cell and its bucket's head stored
--     Filled     the first n of the places ps are listed, and nothing below base has changed
--     begin, put, done     nothing listed yet, one record more, the count stored
--     above      a list stays as it was where only cells above it change
-- Assumes nothing.
use mathlib.Core.Bool.{Bool, true, false}
use mathlib.Core.List.{List, [], ◌∷◌}
use mathlib.Core.Path.{◌≡◌, refl, sym, ap, ◌∙◌, subst}
use Prim.Native.Nat.{ℕ, suc, ◌+◌, ◌-◌, ◌%◌, ◌≤◌, ◌<◌}
use native.Mathlib.Omega.{arith}
use lib.Dec.{eqb}
use borrow.Author.Tests.{eqb-true, eqb-false}
use lib.ListN.{length, get_or, set, length-set}
use lib.Seq.{get_or-set_same, get_or-set_other}
use Rattle.rules.specs.Read.{name_in}
use Rattle.records.specs.Keys.{key_of}
use Rattle.records.specs.Cells.{place_in, number_in, Beside}
use Rattle.tables.specs.Listed.{bucket_in, Newest, Listed, Above}

-- a fact for each index below n, and for n
one_more : (P : ℕ → Type 0) (n : ℕ) → ((i : ℕ) → i < n → P i) → P n → (i : ℕ) → i < n + 1 → P i
one_more P n all e i h = go (eqb n i) refl
  where
    go : (b : Bool) → eqb n i ≡ b → P i
    go true q = subst P (eqb-true n i q) e
    go false q = all i (omega (arith, eqb-false n i q))

-- a cell stored at base or after it
above_set : (t₀ t : List ℕ) (base a v : ℕ) → base ≤ a → Above t₀ t base → Above t₀ (set t a v) base
above_set t₀ t base a v h u = record {
  size = length-set t a v ∙ u.size;
  below = λ j l. get_or-set_other t a j v 0 (omega arith) ∙ u.below j l;
}

-- a record's cell at a, with what its bucket's head at h was, and m at h
pub record Stored (t t' : List ℕ) (a h p m : ℕ) : Type 0 where
  pub size : length t' ≡ length t
  pub place : place_in (get_or t' a 0) ≡ p
  pub link : number_in (get_or t' a 0) ≡ get_or t h 0
  pub head : get_or t' h 0 ≡ m
  pub other : (j : ℕ) → j < a → (j ≡ h → ⊥) → get_or t' j 0 ≡ get_or t j 0

module _ (img t : List ℕ) (a h p v m : ℕ) (earlier : h < a) (room : a < length t) where
  pub stored : p ≤ length img → Beside img p (get_or t h 0) v → Stored t (set (set t a v) h m) a h p m
  stored here b =
      let t₁ = set t a v in
      let l₁ : length t₁ ≡ length t = length-set t a v in
      let cell : get_or (set t₁ h m) a 0 ≡ v = get_or-set_other t₁ h a m 0 (omega arith) ∙ get_or-set_same t a v 0 room in
      record {
        size = length-set t₁ h m ∙ l₁;
        place = rw cell (b.place here);
        link = rw cell b.number;
        head = get_or-set_same t₁ h m 0 (omega arith);
        other = λ j l d. get_or-set_other t₁ h j m 0 d ∙ get_or-set_other t a j v 0 (omega arith);
      }

-- the newest of a bucket, of no record, after one of the bucket and after one of another
module _ (bucket : ℕ → ℕ) where
  newest_none : (b : ℕ) → Newest bucket 0 b 0
  newest_none b = record { within = omega arith; same = λ h. absurd (omega arith); others = λ j a h e. omega arith }

  newest_here : (n b : ℕ) → bucket n ≡ b → Newest bucket (n + 1) b (n + 1)
  newest_here n b e = record {
    within = omega arith;
    same = λ h. let z : n + 1 - 1 ≡ n = omega arith in rw z e;
    others = λ j a h q. omega arith;
  }

  newest_there : (n b h : ℕ) → (bucket n ≡ b → ⊥) → Newest bucket n b h → Newest bucket (n + 1) b h
  newest_there n b h d w = record {
    within = omega (arith, w.within);
    same = w.same;
    others = λ j a l. one_more (λ i. h ≤ i → bucket i ≡ b → ⊥) n (λ i m g. w.others i g m) (λ g. d) j l a;
  }

-- of the places ps the first n are listed, and `rest` are left
pub record Filled (img t₀ t : List ℕ) (base : ℕ) (ps rest : List ℕ) (n : ℕ) : Type 0 where
  pub above : Above t₀ t base
  pub all : length ps ≡ n + length rest
  pub left : (i : ℕ) → get_or ps (n + i) 0 ≡ get_or rest i 0
  pub places : (i : ℕ) → i < n → place_in (get_or t (base + 62 + i) 0) ≡ get_or ps i 0
  pub links : (i : ℕ) → i < n → Newest (bucket_in img ps) i (bucket_in img ps i) (number_in (get_or t (base + 62 + i) 0))
  pub heads : (b : ℕ) → b < 61 → Newest (bucket_in img ps) n b (get_or t (base + 1 + b) 0)

module _ (img t₀ : List ℕ) (base : ℕ) (ps : List ℕ) where
  pub begin : ((b : ℕ) → b < 61 → get_or t₀ (base + 1 + b) 0 ≡ 0) → Filled img t₀ t₀ base ps ps 0
  begin empty = record {
    above = record { size = refl; below = λ j h. refl };
    all = omega arith;
    left = λ i. let z : 0 + i ≡ i = omega arith in rw z refl;
    places = λ i h. absurd (omega arith);
    links = λ i h. absurd (omega arith);
    heads = λ b h. rw (empty b h) (newest_none (bucket_in img ps) b);
  }

  module _ (t : List ℕ) where
    pub put : (rest tail : List ℕ) (n p : ℕ) (t' : List ℕ) → rest ≡ p ∷ tail → Filled img t₀ t base ps rest n →
        Stored t t' (base + 62 + n) (base + 1 + key_of (name_in img p) % 61) p (n + 1) → Filled img t₀ t' base ps tail (n + 1)
    put rest tail n p t' z f s =
        let b = key_of (name_in img p) % 61 in
        let here : get_or ps n 0 ≡ p = subst (λ (m : ℕ). get_or ps m 0 ≡ p) (omega arith) (f.left 0 ∙ rw z refl) in
        let mine : bucket_in img ps n ≡ b = rw here refl in
        record {
          above = record { size = s.size ∙ f.above.size; below = λ j h. s.other j (omega arith) (omega arith) ∙ f.above.below j h };
          all = omega (arith, f.all, ap length z);
          left = λ i. subst (λ (m : ℕ). get_or ps m 0 ≡ get_or tail i 0) (omega arith) (f.left (suc i) ∙ rw z refl);
          places = one_more (λ i. place_in (get_or t' (base + 62 + i) 0) ≡ get_or ps i 0) n
              (λ i h. rw (s.other (base + 62 + i) (omega arith) (omega arith)) (f.places i h))
              (rw here s.place);
          links = one_more (λ i. Newest (bucket_in img ps) i (bucket_in img ps i) (number_in (get_or t' (base + 62 + i) 0))) n
              (λ i h. rw (s.other (base + 62 + i) (omega arith) (omega arith)) (f.links i h))
              (rw (s.link, mine) (f.heads b (omega arith)));
          heads = λ d h. head_of b s mine f d h (eqb b d) refl;
        }
      where
        head_of : (b : ℕ) → Stored t t' (base + 62 + n) (base + 1 + b) p (n + 1) → bucket_in img ps n ≡ b → Filled img t₀ t base ps rest n →
            (d : ℕ) → d < 61 → (q : Bool) → eqb b d ≡ q → Newest (bucket_in img ps) (n + 1) d (get_or t' (base + 1 + d) 0)
        head_of b s mine f d h true q =
            subst (λ (e : ℕ). Newest (bucket_in img ps) (n + 1) e (get_or t' (base + 1 + e) 0)) (eqb-true b d q)
            (rw s.head (newest_here (bucket_in img ps) n b mine))
        head_of b s mine f d h false q =
            rw (s.other (base + 1 + d) (omega arith) (omega (arith, eqb-false b d q)))
            (newest_there (bucket_in img ps) n d (get_or t (base + 1 + d) 0) (λ e. eqb-false b d q (sym mine ∙ e)) (f.heads d h))

    pub done : (rest : List ℕ) (n : ℕ) (first : List ℕ) → rest ≡ [] → base + 62 + n ≤ length t → Above first t₀ base → Filled img t₀ t base ps rest n →
        Listed img (set t base n) base ps × Above first (set t base n) base
    done rest n first z room u f =
        let e : length ps ≡ n = omega (arith, f.all, ap length z) in (
          record {
            count = get_or-set_same t base n 0 (omega arith) ∙ sym e;
            room = omega (arith, length-set t base n);
            places = λ i h. rw (get_or-set_other t base (base + 62 + i) n 0 (omega arith)) (f.places i (omega arith));
            links = λ i h. rw (get_or-set_other t base (base + 62 + i) n 0 (omega arith)) (f.links i (omega arith));
            heads = λ b h. rw (get_or-set_other t base (base + 1 + b) n 0 (omega arith), e) (f.heads b h);
          },
          above_set first t base base n (omega arith) (record { size = f.above.size ∙ u.size; below = λ j h. f.above.below j h ∙ u.below j h }),
        )

pub above : (img t t' : List ℕ) (base b : ℕ) (ps : List ℕ) → base + 62 + length ps ≤ b → Above t t' b → Listed img t base ps → Listed img t' base ps
above img t t' base b ps room a l = record {
  count = a.below base (omega arith) ∙ l.count;
  room = omega (arith, l.room, a.size);
  places = λ i h. rw (a.below (base + 62 + i) (omega arith)) (l.places i h);
  links = λ i h. rw (a.below (base + 62 + i) (omega arith)) (l.links i h);
  heads = λ c h. rw (a.below (base + 1 + c) (omega arith)) (l.heads c h);
}
