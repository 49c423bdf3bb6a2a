-- The turns of the check of a record's parts: what its definition says at each way that a turn of the loop goes.
-- Assumes nothing.
use Rattle.std.specs.Prelude.{}
use mathlib.Core.Path.{◌≡◌, ◌∙◌, refl, sym, ap, subst}
use mathlib.Core.Bool.{Bool, true, false, not}
use mathlib.Core.List.{List}
use Prim.Native.Nat.{ℕ, suc, ◌+◌, ◌-◌, ◌*◌, ◌%◌, ◌≤◌, ◌<◌}
use native.Mathlib.Omega.{arith}
use borrow.Author.Tests.{ne_eqb, le-leb, le-ltb, ltb-false, leb-false, eqb-true, eqb-false}
use lib.Dec.{eqb, leb, ltb}
use Rattle.rules.specs.Bytes.{pick, le32, kind_at, end_at, ◌or◌, ◌and◌}
use Rattle.rules.specs.Grammar.{class_of, due_at}
use Rattle.rules.specs.Check.{unframed, undue, counts, crowded, own_of, header_of, refusal_of, ended, and_then, children_of, record_of}
use Rattle.rules.specs.Seen.{Seen, Sound, Fault}
use Rattle.image.specs.Rows.{dues_of, further, full, off, Right}
use Rattle.image.specs.Within.{parts_in, short, first_of, fault_of, Told}
use Rattle.image.proofs.Dues.{due_below, due_first, due_rest, due_full}
use Rattle.image.proofs.Header.{or_false}
use Rattle.image.proofs.Steps.{record_refused, parts_ended, parts_left, parts_then, parts_fault, parts_more}
use Rattle.image.proofs.Reach.{Reaches, tail_is}

-- What holds where the check of the parts of a record of kind k₀ where d₀ was due comes to p, with n counted: all the parts are as those from
-- the k-th on of a record of a kind where d was due, which is the record or the last of the last of its parts.
pub record Walk (s : List ℕ) (from end levels d₀ k₀ vars p left w n : ℕ) : Type 0 where
  pub d : ℕ
  pub kind : ℕ
  pub k : ℕ
  pub fuel : ℕ
  pub enough : end - p < fuel
  pub same : parts_in levels s from end d₀ k₀ vars ≡ children_of (record_of left) fuel s p end d kind k n
  pub state : w ≡ dues_of d kind k
  pub low : k ≤ p

pub record Turn (t s : List ℕ) (from end levels dues vars p left w n : ℕ) : Type 0 where
  pub right : Right t
  pub bound : end ≤ 65536
  pub inside : p ≤ end
  pub few : n + 6 ≤ p
  pub deep : left ≤ levels
  pub walk : (d k : ℕ) → dues ≡ dues_of d k 0 → Walk s from end levels d k vars p left w n

pub turn_start : (t s : List ℕ) (from end levels dues vars : ℕ) → Right t → end ≤ 65536 → from ≤ end → vars + 6 ≤ from → Turn t s from end levels dues vars from levels dues vars
unfolding parts_in
turn_start t s from end levels dues vars r b l v =
    record {
      right = r;
      bound = b;
      inside = l;
      few = v;
      deep = omega arith;
      walk = λ d k e. record { d = d; kind = k; k = 0; fuel = suc (end - from); enough = omega arith; same = refl; state = e; low = omega arith };
    }

pub told_sound : (end m : ℕ) (x : Seen) → x ≡ Sound end m → m + 6 ≤ end → Told end x m
told_sound end m x e l = subst (λ (y : Seen). Told end y m) (sym e) (refl, refl, l)

pub told_fault : (end number place : ℕ) (x : Seen) → x ≡ Fault number place → 0 < number → place < 4294967296 → Told end x (number * 4294967296 + place)
told_fault end number place x e h l = subst (λ (y : Seen). Told end y (number * 4294967296 + place)) (sym e) (refl, h, l)

-- The first of the tests, with and without that of the record's own bytes.
abbrev first_with : Bool → Bool → Bool → Bool → Bool → ℕ
first_with a b c d o = pick a 2 (pick b 6 (pick c 3 (pick d 7 (pick o 5 0))))

pub first_same : (a b c d o : Bool) → (first_of a b c d ≡ 0 → ⊥) → first_with a b c d o ≡ first_of a b c d
unfolding first_of pick
first_same true b c d o z = refl
first_same false true c d o z = refl
first_same false false true d o z = refl
first_same false false false true o z = refl
first_same false false false false o z = absurd (z refl)

pub first_own : (a b c d o : Bool) → first_of a b c d ≡ 0 → first_with a b c d o ≡ pick o 5 0
unfolding first_of pick
first_own true b c d o e = absurd (omega arith)
first_own false true c d o e = absurd (omega arith)
first_own false false true d o e = absurd (omega arith)
first_own false false false true o e = absurd (omega arith)
first_own false false false false o e = refl

pub first_small : (a b c d : Bool) (number : ℕ) → number ≡ first_of a b c d → number < 8
unfolding first_of pick
first_small true b c d number e = omega arith
first_small false true c d number e = omega arith
first_small false false true d number e = omega arith
first_small false false false true number e = omega arith
first_small false false false false number e = omega arith

first_none : (a b c d : Bool) → first_of a b c d ≡ 0 → (a ≡ false) × (b ≡ false) × (c ≡ false) × (d ≡ false)
unfolding first_of pick
first_none true b c d e = absurd (omega arith)
first_none false true c d e = absurd (omega arith)
first_none false false true d e = absurd (omega arith)
first_none false false false true e = absurd (omega arith)
first_none false false false false e = (refl, refl, refl, refl)

-- What a header that is not refused has.
pub record Passed (t : List ℕ) (size room left x w n kind : ℕ) : Type 0 where
  pub sized : 2 ≤ size
  pub fits : 4 + size ≤ room
  pub level : 0 < left
  pub on : off t x kind ≡ false
  pub below : kind < 72
  pub rest : 18 ≤ x → 4294967296 ≤ w
  pub free : full x w ≡ false
  pub none : first_of (short size room) (eqb left 0) (off t x kind) (full x w or counts x kind and leb 512 n) ≡ 0

room_left : (x w : ℕ) → full x w ≡ false → 18 ≤ x → 4294967296 ≤ w
unfolding full
room_left x w e l = ltb-false w 4294967296 (rw (le-leb 18 x l) at e)

pub passed_is : (t : List ℕ) (size room left x w n kind : ℕ) → first_of (short size room) (eqb left 0) (off t x kind) (full x w or counts x kind and leb 512 n) ≡ 0 → Passed t size room left x w n kind
unfolding short off
passed_is t size room left x w n kind e =
    let f = first_none (short size room) (eqb left 0) (off t x kind) (full x w or counts x kind and leb 512 n) e in
    let o = or_false (ltb size 2) (ltb room (4 + size)) f.0 in
    let c = or_false (full x w) (counts x kind and leb 512 n) f.3 in
    let z = eqb-false left 0 f.1 in
    record {
      sized = ltb-false size 2 o.0;
      fits = ltb-false room (4 + size) o.1;
      level = omega arith;
      on = f.2;
      below = leb-false 72 kind (or_false (leb 72 kind) _ f.2).0;
      rest = room_left x w c.0;
      free = c.0;
      none = e;
    }

module _ (s : List ℕ) (from end levels d₀ k₀ vars p left w n : ℕ) (W : Walk s from end levels d₀ k₀ vars p left w n) where
  due_is : w % 32 ≡ due_at W.d W.kind W.k
  due_is = ap (λ (x : ℕ). x % 32) W.state ∙ due_first W.d W.kind W.k

  due_low : w % 32 < 28
  due_low = subst (λ (x : ℕ). x < 28) (sym due_is) (due_below W.d W.kind W.k)

  pub walk_ended : ended (w % 32) p end ≡ true → parts_in levels s from end d₀ k₀ vars ≡ Sound end n
  walk_ended e = W.same ∙ parts_ended (record_of left) s p end W.d W.kind W.k n W.fuel W.enough (subst (λ (x : ℕ). ended x p end ≡ true) due_is e)

  module _ (going : ended (w % 32) p end ≡ false) where
    on : ended (due_at W.d W.kind W.k) p end ≡ false
    on = subst (λ (x : ℕ). ended x p end ≡ false) due_is going

    walk_left : w % 32 ≡ 0 → parts_in levels s from end d₀ k₀ vars ≡ Fault 4 p
    walk_left z = W.same ∙ parts_left (record_of left) s p end W.d W.kind W.k n W.fuel W.enough on (sym due_is ∙ z)

    -- A fault where something is due is 4 where nothing is.
    pub walk_told : (number : ℕ) → 0 < number → p < 4294967296 → ((w % 32 ≡ 0 → ⊥) → parts_in levels s from end d₀ k₀ vars ≡ Fault number p) → Told end (parts_in levels s from end d₀ k₀ vars) (fault_of (w % 32) number p)
    unfolding fault_of pick
    walk_told number h l f = go (eqb (w % 32) 0) refl
      where
        go : (b : Bool) → eqb (w % 32) 0 ≡ b → Told end (parts_in levels s from end d₀ k₀ vars) (pick b 4 number * 4294967296 + p)
        go true e = told_fault end 4 p _ (walk_left (eqb-true (w % 32) 0 e)) (omega arith) l
        go false e = told_fault end number p _ (f (eqb-false (w % 32) 0 e)) h l

    module _ (some : w % 32 ≡ 0 → ⊥) where
      pub walk_fault : (number place : ℕ) → record_of left s p end (w % 32) W.k n ≡ Fault number place → parts_in levels s from end d₀ k₀ vars ≡ Fault number place
      walk_fault number place e =
          W.same ∙ parts_fault (record_of left) s p end W.d W.kind W.k n W.fuel W.enough on (λ z. some (due_is ∙ z)) number place
          (subst (λ (x : ℕ). record_of left s p end x W.k n ≡ Fault number place) due_is e)

      pub walk_refused : (number : ℕ) → refusal_of (header_of s p end left (w % 32) W.k n) ≡ suc number → parts_in levels s from end d₀ k₀ vars ≡ Fault (suc number) p
      walk_refused number e =
          walk_fault (suc number) p
          (record_refused s p end (w % 32) W.k n left (λ y. let z = sym e ∙ y in omega arith) ∙ ap (λ (x : ℕ). Fault x p) e)

      module _ (free : full (w % 32) w ≡ false) where
        next_is : further (w % 32) w ≡ dues_of W.d W.kind (W.k + 1)
        next_is =
            ap (λ (x : ℕ). further x w) due_is ∙ ap (further (due_at W.d W.kind W.k)) W.state
            ∙ due_rest W.d W.kind W.k (λ z. some (due_is ∙ z))
            (subst (λ (x : ℕ). full (due_at W.d W.kind W.k) x ≡ false) W.state (subst (λ (x : ℕ). full x w ≡ false) due_is free))

        pub walk_more : (q m : ℕ) → record_of left s p end (w % 32) W.k n ≡ Sound q m → p < q → q ≤ end → Walk s from end levels d₀ k₀ vars q left (further (w % 32) w) m
        walk_more q m e l h =
            record {
              d = W.d;
              kind = W.kind;
              k = W.k + 1;
              fuel = W.fuel - 1;
              enough = omega (arith, W.enough);
              same =
                  W.same ∙ parts_more (record_of left) s p end W.d W.kind W.k n W.fuel W.enough on (λ z. some (due_is ∙ z)) q m
                  (subst (λ (x : ℕ). record_of left s p end x W.k n ≡ Sound q m) due_is e);
              state = next_is;
              low = omega (arith, W.low);
            }

        -- Where the part is the last, and ends where the record does, it is what is left.
        pub walk_tail : (y : Seen) → record_of left s p end (w % 32) W.k n ≡ y → Reaches end y → p < end → ended (further (w % 32) w % 32) end end ≡ true → parts_in levels s from end d₀ k₀ vars ≡ y
        walk_tail y e r l f =
            let i = W.k + 1 in
            W.same ∙ parts_then (record_of left) s p end W.d W.kind W.k n W.fuel W.enough on (λ z. some (due_is ∙ z))
            ∙ ap (λ (x : Seen). and_then x (λ q m. children_of (record_of left) (W.fuel - 1) s q end W.d W.kind i m))
            (subst (λ (x : ℕ). record_of left s p end x W.k n ≡ y) due_is e)
            ∙ tail_is end y (λ q m. children_of (record_of left) (W.fuel - 1) s q end W.d W.kind i m) r
            (λ m. parts_ended (record_of left) s end end W.d W.kind i m (W.fuel - 1) (omega (arith, W.enough))
            (subst (λ (x : ℕ). ended x end end ≡ true) (ap (λ (x : ℕ). x % 32) next_is ∙ due_first W.d W.kind i) f))

  -- The header, by the code's tests.
  module _ (t : List ℕ) (R : Right t) (bound : end ≤ 65536) (room : 6 ≤ end - p) (some : w % 32 ≡ 0 → ⊥) where
    stands_is : undue (w % 32) (kind_at s p) ≡ off t (w % 32) (kind_at s p)
    stands_is = sym (R.stands (w % 32) (kind_at s p) due_low ∙ rw (ne_eqb (w % 32) 0 some) refl)

    full_is : leb (class_of (w % 32)).most W.k ≡ full (w % 32) w
    full_is =
        ap (λ (x : ℕ). leb (class_of x).most W.k) due_is
        ∙ due_full W.d W.kind W.k (λ z. some (due_is ∙ z)) (omega (arith, W.low))
        ∙ ap (full (due_at W.d W.kind W.k)) (sym W.state) ∙ ap (λ (x : ℕ). full x w) (sym due_is)

    frame_is : unframed s p end ≡ short (le32 s p) (end - p)
    unfolding unframed short
    frame_is = rw (le-ltb (end - p) 6 room) refl

    pub header_is : refusal_of (header_of s p end left (w % 32) W.k n) ≡ first_with (short (le32 s p) (end - p)) (eqb left 0) (off t (w % 32) (kind_at s p)) (full (w % 32) w or counts (w % 32) (kind_at s p) and leb 512 n) (not (own_of s (p + 6) (end_at s p) (kind_at s p)))
    unfolding refusal_of header_of crowded
    header_is = rw (frame_is, stands_is, full_is) refl
