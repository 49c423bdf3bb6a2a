-- The tests of a record's header: which refusal they give, and what holds where they give none.
-- Assumes nothing.
use mathlib.Core.Path.{◌≡◌, refl, subst}
use mathlib.Core.Bool.{Bool, true, false, not}
use mathlib.Core.List.{List}
use Prim.Native.Nat.{ℕ, suc, ◌+◌, ◌-◌, ◌≤◌, ◌<◌}
use native.Mathlib.Omega.{arith}
use borrow.Author.Tests.{ltb-false, eqb-false}
use lib.Dec.{T, ltb, eqb}
use Rattle.rules.specs.Bytes.{kind_at, end_at, pick, le32, ◌or◌, ◌and◌}
use Rattle.rules.specs.Check.{unframed, undue, crowded, own_of, header_of, refusal_of}

pub and_false : (a : Bool) → false ≡ (a and false)
and_false true = refl
and_false false = refl

pub and_true : (a : Bool) → a ≡ (a and true)
and_true true = refl
and_true false = refl

pub or_false : (a b : Bool) → (a or b) ≡ false → (a ≡ false) × (b ≡ false)
or_false true b e = absurd (subst T e tt)
or_false false b e = (refl, e)

-- a framed record has its six bytes, and its end is within its parent's
pub framed : (s : List ℕ) (at end : ℕ) → unframed s at end ≡ false → (6 ≤ end - at) × (2 ≤ le32 s at) × (4 + le32 s at ≤ end - at)
unfolding unframed
framed s at end e =
    let o = or_false (ltb (end - at) 6) _ e in
    let o' = or_false (ltb (le32 s at) 2) _ o.1 in
    (ltb-false _ _ o.0, ltb-false _ _ o'.0, ltb-false _ _ o'.1)

module _ (s : List ℕ) (at end left d i vars : ℕ) where
  pub refuse_2 : unframed s at end ≡ true → refusal_of (header_of s at end left d i vars) ≡ 2
  unfolding pick refusal_of header_of
  refuse_2 a = rw a

  pub refuse_6 : unframed s at end ≡ false → eqb left 0 ≡ true → refusal_of (header_of s at end left d i vars) ≡ 6
  unfolding pick refusal_of header_of
  refuse_6 a b = rw (a, b)

  pub refuse_3 :
      unframed s at end ≡ false → eqb left 0 ≡ false → undue d (kind_at s at) ≡ true → refusal_of (header_of s at end left d i vars) ≡ 3
  unfolding pick refusal_of header_of
  refuse_3 a b c = rw (a, b, c)

  pub refuse_7 :
      unframed s at end ≡ false →
      eqb left 0 ≡ false →
      undue d (kind_at s at) ≡ false →
      crowded d (kind_at s at) i vars ≡ true → refusal_of (header_of s at end left d i vars) ≡ 7
  unfolding pick refusal_of header_of
  refuse_7 a b c e = rw (a, b, c, e)

  pub refuse_5 :
      unframed s at end ≡ false →
      eqb left 0 ≡ false →
      undue d (kind_at s at) ≡ false →
      crowded d (kind_at s at) i vars ≡ false →
      own_of s (at + 6) (end_at s at) (kind_at s at) ≡ false → refusal_of (header_of s at end left d i vars) ≡ 5
  unfolding pick refusal_of header_of
  refuse_5 a b c e f = rw (a, b, c, e, f)

  pub refuse_0 :
      unframed s at end ≡ false →
      eqb left 0 ≡ false →
      undue d (kind_at s at) ≡ false →
      crowded d (kind_at s at) i vars ≡ false →
      own_of s (at + 6) (end_at s at) (kind_at s at) ≡ true → refusal_of (header_of s at end left d i vars) ≡ 0
  unfolding pick refusal_of header_of
  refuse_0 a b c e f = rw (a, b, c, e, f)

-- the first test passes where nothing is refused
first : (b : Bool) (n rest : ℕ) → pick b (suc n) rest ≡ 0 → (b ≡ false) × (rest ≡ 0)
unfolding pick
first true n rest e = absurd (omega arith)
first false n rest e = (refl, e)

-- so every test passes
pub passed :
    (s : List ℕ) (at end left d i vars : ℕ) →
    refusal_of (header_of s at end left d i vars) ≡ 0 →
    (unframed s at end ≡ false) ×
    (eqb left 0 ≡ false) ×
    (undue d (kind_at s at) ≡ false) ×
    (crowded d (kind_at s at) i vars ≡ false) × (not (own_of s (at + 6) (end_at s at) (kind_at s at)) ≡ false)
unfolding pick refusal_of header_of
passed s at end left d i vars e =
    let a = first (unframed s at end) 1 _ e in
    let b = first (eqb left 0) 5 _ a.1 in
    let c = first (undue d (kind_at s at)) 2 _ b.1 in
    let f = first (crowded d (kind_at s at) i vars) 6 _ c.1 in
    let g = first (not (own_of s (at + 6) (end_at s at) (kind_at s at))) 4 _ f.1 in
    (a.0, b.0, c.0, f.0, g.0)

pub sound_header :
    (s : List ℕ) (at end left d i vars : ℕ) →
    refusal_of (header_of s at end left d i vars) ≡ 0 →
    (6 ≤ end - at) × (2 ≤ le32 s at) × (4 + le32 s at ≤ end - at) × (0 < left)
sound_header s at end left d i vars e =
    let a = passed s at end left d i vars e in
    let f = framed s at end a.0 in
    let z = eqb-false left 0 a.1 in
    (f.0, f.1, f.2, omega arith)
