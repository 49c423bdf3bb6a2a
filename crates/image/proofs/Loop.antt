-- What each way that a turn of the check's loop goes comes to.
-- Assumes nothing.
use Rattle.std.specs.Prelude.{}
use mathlib.Core.Path.{◌≡◌, ◌∙◌, refl, sym, ap, subst}
use mathlib.Core.Bool.{Bool, true, false, not}
use mathlib.Core.List.{List}
use Prim.Native.Nat.{ℕ, suc, ◌+◌, ◌-◌, ◌/◌, ◌%◌, ◌≤◌, ◌<◌}
use native.Mathlib.Omega.{arith}
use borrow.Author.Tests.{ne_eqb, lt-ltb, eqb-true}
use lib.Dec.{T, eqb, leb, ltb}
use lib.ListN.{get_or}
use Rattle.rules.specs.Bytes.{pick, le32, kind_at, end_at, ◌or◌, ◌and◌}
use Rattle.rules.specs.Grammar.{class_of}
use Rattle.rules.specs.Check.{unframed, counts, own_of, header_of, refusal_of, vars_in_lem, ended, record_of}
use Rattle.rules.specs.Seen.{Seen, Sound, Fault}
use Rattle.image.specs.Leaves.{leaf}
use Rattle.image.specs.Rows.{dues_of, further, full, off, inner}
use Rattle.image.specs.Within.{parts_in, short, first_of, fault_of, Told, Parts}
use Rattle.image.proofs.Header.{refuse_2}
use Rattle.image.proofs.Steps.{part_leaf, part_open}
use Rattle.image.proofs.Reach.{reaches}
use Rattle.image.proofs.Turns.{Turn, Passed, told_sound, first_same, first_own, walk_ended, walk_told, walk_fault, walk_refused, walk_more, walk_tail, header_is}

-- An answer that is a fault goes on as it is; any other is a count.
told_pass : (at end r : ℕ) (x y : Seen) → Told at x r → at ≤ 65536 → 65536 ≤ r → ((number place : ℕ) → x ≡ Fault number place → y ≡ Fault number place) → Told end y r
told_pass at end r (Sound q m) y h l g f = absurd (omega arith)
told_pass at end r (Fault number place) y h l g f = subst (λ (z : Seen). Told end z r) (sym (f number place refl)) h

pub told_count : (at r : ℕ) (x : Seen) → Told at x r → r < 65536 → (x ≡ Sound at r) × (r + 6 ≤ at)
told_count at r (Sound q m) h l = (ap (λ (z : ℕ). Sound z m) h.0 ∙ ap (Sound at) (sym h.1), omega arith)
told_count at r (Fault number place) h l = absurd (omega arith)

pub told_number : (at r : ℕ) (x : Seen) → Told at x r → at ≤ 65536 → 65536 ≤ r → x ≡ Fault (r / 4294967296) (r % 4294967296)
told_number at r (Sound q m) h l g = absurd (omega arith)
told_number at r (Fault number place) h l g =
    let e : number ≡ r / 4294967296 = omega arith in
    let f : place ≡ r % 4294967296 = omega arith in
    ap (λ (z : ℕ). Fault z place) e ∙ ap (Fault (r / 4294967296)) f

-- A record with parts has no bytes of its own.
own_open : (s : List ℕ) (from to k : ℕ) → leaf k ≡ false → own_of s from to k ≡ true
unfolding own_of leaf pick
own_open s from to k e =
    rw (
      ne_eqb k 1 (λ z. absurd (subst T (subst (λ (x : ℕ). leaf x ≡ false) z e) tt)),
      ne_eqb k 3 (λ z. absurd (subst T (subst (λ (x : ℕ). leaf x ≡ false) z e) tt)),
      ne_eqb k 4 (λ z. absurd (subst T (subst (λ (x : ℕ). leaf x ≡ false) z e) tt)),
      ne_eqb k 64 (λ z. absurd (subst T (subst (λ (x : ℕ). leaf x ≡ false) z e) tt)),
    ) refl

ended_at : (x p end : ℕ) → ended x p end ≡ true → p ≡ end
unfolding ended
ended_at x p end e = go (eqb p end) refl e
  where
    go : (b : Bool) → eqb p end ≡ b → (b and not (class_of x).must) ≡ true → p ≡ end
    go true f g = eqb-true p end f
    go false f g = absurd (subst T (sym g) tt)

module _ (t s : List ℕ) (from end levels dues vars p left w n : ℕ) (I : Turn t s from end levels dues vars p left w n) where
  pub turn_ended : ended (w % 32) p end ≡ true → Parts levels s from end dues vars n
  turn_ended e d k z = told_sound end n _ (walk_ended s from end levels d k vars p left w n (I.walk d k z) e) (omega (arith, I.few, I.inside))

  few_bytes : end - p < 6 → unframed s p end ≡ true
  unfolding unframed
  few_bytes l = rw (lt-ltb (end - p) 6 l)

  pub turn_short : end - p < 6 → ended (w % 32) p end ≡ false → Parts levels s from end dues vars (fault_of (w % 32) 2 p)
  turn_short l e d k z =
      let W = I.walk d k z in
      walk_told s from end levels d k vars p left w n W e 2 (omega arith) (omega (arith, I.inside, I.bound))
      (λ y. walk_refused s from end levels d k vars p left w n W e y 1 (refuse_2 s p end left (w % 32) W.k n (few_bytes l)))

  module _ (room : 6 ≤ end - p) where
    going : ended (w % 32) p end ≡ false
    unfolding ended
    going = rw (ne_eqb p end (λ z. omega arith))

    -- A fault that the header gives, with the record's own bytes or without.
    refused_by : (number : ℕ) → ((d k : ℕ) (z : dues ≡ dues_of d k 0) → (w % 32 ≡ 0 → ⊥) → refusal_of (header_of s p end left (w % 32) (I.walk d k z).k n) ≡ suc number) → Parts levels s from end dues vars (fault_of (w % 32) (suc number) p)
    refused_by number f d k z =
        let W = I.walk d k z in
        walk_told s from end levels d k vars p left w n W going (suc number) (omega arith) (omega (arith, I.inside, I.bound))
        (λ y. walk_refused s from end levels d k vars p left w n W going y number (f d k z y))

    refused_as : (number : ℕ) → number ≡ first_of (short (le32 s p) (end - p)) (eqb left 0) (off t (w % 32) (kind_at s p)) (full (w % 32) w or counts (w % 32) (kind_at s p) and leb 512 n) → (number ≡ 0 → ⊥) → Parts levels s from end dues vars (fault_of (w % 32) number p)
    refused_as number g h =
        let e : suc (number - 1) ≡ number = omega (arith, h) in
        subst (λ (x : ℕ). Parts levels s from end dues vars (fault_of (w % 32) x p)) e
        (refused_by (number - 1) (λ d k z y.
        header_is s from end levels d k vars p left w n (I.walk d k z) t I.right I.bound room y
        ∙ first_same _ _ _ _ _ (λ x. h (g ∙ x)) ∙ sym g ∙ sym e))

    module _ (size kind : ℕ) (e : size ≡ le32 s p) (f : kind ≡ kind_at s p) where
      pub turn_refused : (number : ℕ) → number ≡ first_of (short size (end - p)) (eqb left 0) (off t (w % 32) kind) (full (w % 32) w or counts (w % 32) kind and leb 512 n) → (number ≡ 0 → ⊥) → Parts levels s from end dues vars (fault_of (w % 32) number p)
      turn_refused number g h = refused_as number (rw (e, f) at g) h

      module _ (P : Passed t size (end - p) left (w % 32) w n kind) where
        some : w % 32 ≡ 0 → ⊥
        some z = subst T (sym (I.right.stands 0 kind (omega arith)) ∙ subst (λ (x : ℕ). off t x kind ≡ false) z P.on) tt

        passed : first_of (short (le32 s p) (end - p)) (eqb left 0) (off t (w % 32) (kind_at s p)) (full (w % 32) w or counts (w % 32) (kind_at s p) and leb 512 n) ≡ 0
        passed = rw (e, f) at P.none

        header_own : (d k : ℕ) (z : dues ≡ dues_of d k 0) → refusal_of (header_of s p end left (w % 32) (I.walk d k z).k n) ≡ pick (not (own_of s (p + 6) (end_at s p) (kind_at s p))) 5 0
        header_own d k z = header_is s from end levels d k vars p left w n (I.walk d k z) t I.right I.bound room some ∙ first_own _ _ _ _ _ passed

        own_here : (b : Bool) → own_of s (p + 6) (p + 4 + size) kind ≡ b → own_of s (p + 6) (end_at s p) (kind_at s p) ≡ b
        own_here b o = rw (e, f) at o

        pub turn_own : own_of s (p + 6) (p + 4 + size) kind ≡ false → Parts levels s from end dues vars (fault_of (w % 32) 5 p)
        unfolding pick
        turn_own o = refused_by 4 (λ d k z y. header_own d k z ∙ rw (own_here false o) refl)

        sound : (d k : ℕ) (z : dues ≡ dues_of d k 0) → own_of s (p + 6) (p + 4 + size) kind ≡ true → refusal_of (header_of s p end left (w % 32) (I.walk d k z).k n) ≡ 0
        unfolding pick
        sound d k z o = header_own d k z ∙ rw (own_here true o) refl

        leaf_is : (b : Bool) → ltb (get_or t kind 0) 4294967296 ≡ b → leaf (kind_at s p) ≡ b
        leaf_is b l = ap leaf (sym f) ∙ sym (I.right.leaves (w % 32) kind (omega arith) P.on) ∙ l

        pub turn_leaf : ltb (get_or t kind 0) 4294967296 ≡ true → own_of s (p + 6) (p + 4 + size) kind ≡ true → Turn t s from end levels dues vars (p + 4 + size) left (further (w % 32) w) n
        turn_leaf l o =
            record {
              right = I.right;
              bound = I.bound;
              inside = omega (arith, P.fits, I.inside);
              few = omega (arith, I.few);
              deep = I.deep;
              walk = λ d k z.
                  walk_more s from end levels d k vars p left w n (I.walk d k z) going some P.free (p + 4 + size) n
                  (part_leaf s p end (w % 32) (I.walk d k z).k n left (sound d k z o) (leaf_is true l) ∙ rw e refl)
                  (omega arith) (omega (arith, P.fits, I.inside));
            }

        module _ (l : ltb (get_or t kind 0) 4294967296 ≡ false) (v m : ℕ) (vi : v ≡ inner t (w % 32) kind) (mi : m ≡ vars_in_lem (w % 32) kind n) (mn : m ≤ n + 1) where
          opened : (d k : ℕ) (z : dues ≡ dues_of d k 0) → record_of left s p end (w % 32) (I.walk d k z).k n ≡ parts_in (left - 1) s (p + 6) (p + 4 + size) (w % 32) kind m
          opened d k z =
              part_open s p end (w % 32) (I.walk d k z).k n left (sound d k z (own_open s (p + 6) (p + 4 + size) kind (ap leaf f ∙ leaf_is false l))) (leaf_is false l)
              ∙ rw (mi, e, f) refl

          state : v ≡ dues_of (w % 32) kind 0
          state = vi ∙ I.right.within (w % 32) kind (omega arith) P.on l

          pub turn_tail : ended (further (w % 32) w % 32) (p + 4 + size) end ≡ true → Turn t s from end levels dues vars (p + 6) (left - 1) v m
          unfolding parts_in
          turn_tail h =
              let q = ended_at (further (w % 32) w % 32) (p + 4 + size) end h in
              record {
                right = I.right;
                bound = I.bound;
                inside = omega (arith, I.inside);
                few = omega (arith, I.few);
                deep = omega (arith, I.deep);
                walk = λ d k z. record {
                  d = w % 32;
                  kind = kind;
                  k = 0;
                  fuel = suc (end - (p + 6));
                  enough = omega arith;
                  same =
                      walk_tail s from end levels d k vars p left w n (I.walk d k z) going some P.free (parts_in (left - 1) s (p + 6) end (w % 32) kind m)
                      (subst (λ (x : ℕ). record_of left s p end (w % 32) (I.walk d k z).k n ≡ parts_in (left - 1) s (p + 6) x (w % 32) kind m) q (opened d k z))
                      (reaches (record_of (left - 1)) (suc (end - (p + 6))) s (p + 6) end (w % 32) kind 0 m)
                      (omega arith) (subst (λ (x : ℕ). ended (further (w % 32) w % 32) x end ≡ true) q h);
                  state = state;
                  low = omega arith;
                };
              }

          module _ (r : ℕ) (g : Parts (left - 1) s (p + 6) (p + 4 + size) v m r) where
            pub turn_in : 65536 ≤ r → Parts levels s from end dues vars r
            turn_in h d k z =
                told_pass (p + 4 + size) end r _ _ (g (w % 32) kind state) (omega (arith, P.fits, I.inside, I.bound)) h
                (λ number place y. walk_fault s from end levels d k vars p left w n (I.walk d k z) going some number place (opened d k z ∙ y))

            pub turn_past : r < 65536 → Turn t s from end levels dues vars (p + 4 + size) left (further (w % 32) w) r
            turn_past h =
                let c = told_count (p + 4 + size) r (parts_in (left - 1) s (p + 6) (p + 4 + size) (w % 32) kind m) (g (w % 32) kind state) h in
                record {
                  right = I.right;
                  bound = I.bound;
                  inside = omega (arith, P.fits, I.inside);
                  few = c.1;
                  deep = I.deep;
                  walk = λ d k z.
                      walk_more s from end levels d k vars p left w n (I.walk d k z) going some P.free (p + 4 + size) r (opened d k z ∙ c.0)
                      (omega arith) (omega (arith, P.fits, I.inside));
                }
