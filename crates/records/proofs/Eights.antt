-- Bytes compared four and eight at a time.
--     by_cases        the two cases of a place
--     more, more8     a loop's next step: one byte, eight bytes
--     whole, ends     all bytes were compared: eight at a time and the last eight; the first four and the last four
-- Assumes nothing.
use mathlib.Core.List.{List}
use mathlib.Core.Path.{◌≡◌, refl, subst}
use mathlib.Core.Bool.{Bool, true, false}
use Prim.Native.Nat.{ℕ, ◌+◌, ◌-◌, ◌≤◌, ◌<◌}
use native.Mathlib.Omega.{arith}
use lib.Dec.{leb}
use borrow.Author.Tests.{leb-true, leb-false}
use lib.ListN.{length, get_or}
use Rattle.rules.specs.Bytes.{eq_name, le16, le32, le64}
use Rattle.records.specs.Names.{agree}
use Rattle.records.specs.Small.{Bytes, half_bytes, half_small, word_small}

pub by_cases : (P : Type 0) (a b : ℕ) → (a ≤ b → P) → (b < a → P) → P
by_cases P a b f g = go (leb a b) refl
  where
    go : (t : Bool) → leb a b ≡ t → P
    go true h = f (leb-true a b h)
    go false h = g (leb-false a b h)

module _ (s t : List ℕ) where
  abbrev Same : ℕ → Type 0
  Same k = get_or s k 0 ≡ get_or t k 0

  moved : (i k : ℕ) → i ≡ k → Same i → Same k
  moved i k z e = subst Same z e

  module _ (bs : Bytes s) (bt : Bytes t) where
    two : (i : ℕ) → le16 s i ≡ le16 t i → (k : ℕ) → i ≤ k → k < i + 2 → Same k
    two i e k p q =
        let a : Same i = omega (arith, half_bytes s i, half_bytes t i, bs i, bt i) in
        let b : Same (i + 1) = omega (arith, half_bytes s i, half_bytes t i, bs i, bt i) in
        by_cases (Same k) (i + 1) k
        (λ h. moved (i + 1) k (omega arith) b)
        (λ h. moved i k (omega arith) a)

    four : (i : ℕ) → le32 s i ≡ le32 t i → (k : ℕ) → i ≤ k → k < i + 4 → Same k
    unfolding le32
    four i e k p q =
        let a : le16 s i ≡ le16 t i = omega (arith, half_small s bs i, half_small t bt i) in
        let b : le16 s (i + 2) ≡ le16 t (i + 2) = omega (arith, half_small s bs i, half_small t bt i) in
        by_cases (Same k) (i + 2) k (λ h. two (i + 2) b k h (omega arith)) (λ h. two i a k p h)

    eight : (i : ℕ) → le64 s i ≡ le64 t i → (k : ℕ) → i ≤ k → k < i + 8 → Same k
    unfolding le64
    eight i e k p q =
        let a : le32 s i ≡ le32 t i = omega (arith, word_small s bs i, word_small t bt i) in
        let b : le32 s (i + 4) ≡ le32 t (i + 4) = omega (arith, word_small s bs i, word_small t bt i) in
        by_cases (Same k) (i + 4) k (λ h. four (i + 4) b k h (omega arith)) (λ h. four i a k p h)

    pub more8 : (i : ℕ) → ((k : ℕ) → k < i → Same k) → le64 s i ≡ le64 t i → (k : ℕ) → k < i + 8 → Same k
    more8 i all e k h = by_cases (Same k) i k (λ g. eight i e k g h) (λ g. all k g)

    pub whole : length s ≡ length t → (i : ℕ) → length s - i ≤ 8 → 8 ≤ length s → ((k : ℕ) → k < i → Same k) → le64 s (length s - 8) ≡ le64 t (length s - 8) → true ≡ eq_name s t
    whole l i d n all e =
        agree s t l λ k h. by_cases (Same k) (length s - 8) k
        (λ g. eight (length s - 8) e k g (omega arith))
        (λ g. all k (omega arith))

    pub ends : length s ≡ length t → 4 ≤ length s → length s < 8 → le32 s (length s - 4) ≡ le32 t (length s - 4) → le32 s 0 ≡ le32 t 0 → true ≡ eq_name s t
    ends l n m e f =
        agree s t l λ k h. by_cases (Same k) (length s - 4) k
        (λ g. four (length s - 4) e k g (omega arith))
        (λ g. four 0 f k (omega arith) (omega arith))

  pub more : (i : ℕ) → ((k : ℕ) → k < i → Same k) → Same i → (k : ℕ) → k < i + 1 → Same k
  more i all e k h = by_cases (Same k) i k (λ g. moved i k (omega arith) e) (λ g. all k g)
