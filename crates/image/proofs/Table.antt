-- The table of the grammar: what a test of its rows tells of every kind at every due.
-- Assumes nothing.
use mathlib.Core.Path.{◌≡◌, refl, ap, subst}
use mathlib.Core.Bool.{Bool, true, false, not}
use mathlib.Core.List.{List}
use Prim.Native.Nat.{ℕ, ◌≤◌, ◌<◌}
use native.Mathlib.Omega.{arith}
use borrow.Author.Tests.{le-leb, lt-ltb, le-ltb, ltb-true, eqb-true, leb-true, ne_eqb}
use lib.Dec.{T, eqb, leb, ltb}
use lib.ListN.{get_or, get_or-eq_default}
use Rattle.rules.specs.Bytes.{◌or◌, ◌and◌}
use Rattle.rules.specs.Check.{undue}
use Rattle.rules.specs.Grammar.{classes, class_of}
use Rattle.rules.specs.declared.Class.{Class}
use Rattle.image.specs.Leaves.{leaf}
use Rattle.image.specs.Rows.{dues_of, off, inner, Right}
use Rattle.image.proofs.Every.{by_cases, every, every_at, both, truth}

abbrev same : Bool → Bool → Bool
same true b = b
same false b = not b

same_is : (a b : Bool) → T (same a b) → a ≡ b
same_is true true t = refl
same_is false false t = refl
same_is true false t = absurd t
same_is false true t = absurd t

-- Where kind k may stand.
abbrev stands_right : List ℕ → ℕ → ℕ → Bool
stands_right t k x = same (off t x k) (eqb x 0 or undue x k)

-- What a row says of a kind that may stand somewhere.
abbrev leaf_right : List ℕ → ℕ → Bool
leaf_right t k = same (ltb (get_or t k 0) 4294967296) (leaf k)

abbrev inner_right : List ℕ → ℕ → ℕ → Bool
inner_right t k x = ltb (get_or t k 0) 4294967296 or eqb (inner t x k) (dues_of x k 0)

abbrev list_right : ℕ → ℕ → Bool
list_right k x = not (eqb k 2) or ltb x 18

abbrev row_right : List ℕ → ℕ → ℕ → Bool
row_right t k x = off t x k or leaf_right t k and inner_right t k x and list_right k x

abbrev kind_right : List ℕ → ℕ → Bool
kind_right t k = every 28 (stands_right t k) and every 32 (row_right t k)

abbrev pub right : List ℕ → Bool
right t = every 72 (kind_right t)

-- No class reaches past 71.
past : (x k : ℕ) → x < 28 → 72 ≤ k → undue x k ≡ true
unfolding undue class_of
past x k h l =
    let g = leb-true (class_of x).high 71 (truth _ (every_at 28 (λ (y : ℕ). leb (class_of y).high 71) x tt h)) in
    go (ltb k (class_of x).low) (ltb (class_of x).high k) (lt-ltb (class_of x).high k (omega arith))
  where
    go : (a b : Bool) → b ≡ true → (a or b) ≡ true
    go true b e = refl
    go false b e = e

or_true : (a : Bool) → true ≡ (a or true)
or_true true = refl
or_true false = refl

off_past : (t : List ℕ) (x k : ℕ) → x < 28 → 72 ≤ k → off t x k ≡ (eqb x 0 or undue x k)
unfolding off
off_past t x k h l = rw (le-leb 72 k l, past x k h l) (or_true (eqb x 0))

or_right : (a b : Bool) → T (a or b) → a ≡ false → T b
or_right true b t e = absurd (subst T e tt)
or_right false b t e = t

off_below : (t : List ℕ) (x k : ℕ) → off t x k ≡ false → k < 72
unfolding off
off_below t x k e = by_cases (k < 72) 72 k (λ g. absurd (subst T (rw (le-leb 72 k g) at e) tt)) (λ g. g)

module _ (t : List ℕ) (r : T (right t)) where
  at : (k : ℕ) → k < 72 → T (every 28 (stands_right t k)) × T (every 32 (row_right t k))
  at k l = both (every 28 (stands_right t k)) (every 32 (row_right t k)) (every_at 72 (kind_right t) k r l)

  row_at : (x k : ℕ) → x < 32 → off t x k ≡ false → T (leaf_right t k) × T (inner_right t k x) × T (list_right k x)
  row_at x k h e =
      let b = both (leaf_right t k) (inner_right t k x and list_right k x)
      (or_right (off t x k) (leaf_right t k and inner_right t k x and list_right k x) (every_at 32 (row_right t k) x (at k (off_below t x k e)).1 h) e) in
      let g = both (inner_right t k x) (list_right k x) b.1 in
      (b.0, g.0, g.1)

  stands_at : (x k : ℕ) → x < 28 → off t x k ≡ (eqb x 0 or undue x k)
  stands_at x k h =
      by_cases (off t x k ≡ (eqb x 0 or undue x k)) 72 k (off_past t x k h) (λ l. same_is (off t x k) (eqb x 0 or undue x k) (every_at 28 (stands_right t k) x (at k l).0 h))

  pub right_is : Right t
  right_is =
      record {
        stands = stands_at;
        leaves = λ x k h e. same_is (ltb (get_or t k 0) 4294967296) (leaf k) (row_at x k h e).0;
        within = λ x k h e f. eqb-true (inner t x k) (dues_of x k 0) (truth (eqb (inner t x k) (dues_of x k 0)) (or_right (ltb (get_or t k 0) 4294967296) _ (row_at x k h e).1 f));
        lists = λ x h e. ltb-true x 18 (truth (ltb x 18) (row_at x 2 h e).2);
      }

-- What may be left off: a record of a List, what a Return returns, an else, and nothing.
pub must_listed : (x : ℕ) → 18 ≤ x → (class_of x).must ≡ false
unfolding class_of classes
must_listed x h =
    by_cases ((class_of x).must ≡ false) 28 x
    (λ l. ap (λ (c : Class). c.must) (get_or-eq_default classes _ {n = x} l))
    (λ l. same_is (class_of x).must false (or_right (ltb x 18) _ (every_at 28 (λ (y : ℕ). ltb y 18 or same (class_of y).must false) x tt l) (le-ltb x 18 h)))

pub must_alone : (x : ℕ) → x < 18 → (x ≡ 0 → ⊥) → (x ≡ 6 → ⊥) → eqb x 14 ≡ not (class_of x).must
unfolding class_of classes
must_alone x l a b =
    same_is (eqb x 14) (not (class_of x).must)
    (or_right (eqb x 6) _ (or_right (eqb x 0) _ (every_at 18 (λ (y : ℕ). eqb y 0 or eqb y 6 or same (eqb y 14) (not (class_of y).must)) x tt l) (ne_eqb x 0 a)) (ne_eqb x 6 b))
