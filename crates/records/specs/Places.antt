-- The places of a List's records, a record at a time.
--     places_zero, places_end, places_more      none may be read; none is left; one is
--     places_before, places_few      each stands before the end; so many at most
--     counted      as many as were stepped over, and the rest
-- Assumes nothing.
use Rattle.std.specs.Prelude.{Bool, true, false, List, [], ◌∷◌, ◌≡◌, ltb, length, get_or}
use Rattle.std.proofs.Math.Path.{refl}
use Rattle.std.proofs.Common.{ap, sub-one, arith, lt-ltb, le-ltb, ltb-true}
use Prim.Native.Nat.{ℕ, zero, suc, ◌+◌, ◌-◌, ◌≤◌, ◌<◌}
use Rattle.rules.specs.Bytes.{after}
use Rattle.rules.specs.Read.{when, places_from}

module _ (img : List ℕ) where
  pub places_zero : (k p e : ℕ) → k ≡ 0 → places_from k img p e ≡ []
  unfolding places_from
  places_zero zero p e h = refl
  places_zero (suc k) p e h = absurd (omega arith)

  pub places_end : (k p e : ℕ) → e ≤ p → places_from k img p e ≡ []
  unfolding places_from
  places_end zero p e h = refl
  places_end (suc k) p e h = simp (le-ltb _ _ h)

  pub places_more : (k p e : ℕ) → (k ≡ 0 → ⊥) → p < e → places_from k img p e ≡ p ∷ places_from (k - 1) img (after img p) e
  unfolding places_from
  places_more zero p e h l = absurd (h refl)
  places_more (suc k) p e h l = simp (lt-ltb _ _ l, sub-one)

  -- each stands before the end
  pub places_before : (k p e i : ℕ) → i < length (places_from k img p e) → get_or (places_from k img p e) i 0 < e
  unfolding places_from
  places_before zero p e i h = absurd (omega arith)
  places_before (suc k) p e i h = by (ltb p e) refl (λ j. places_before k (after img p) e j) i h
    where
      by : (b : Bool) → ltb p e ≡ b → ((j : ℕ) → j < length (places_from k img (after img p) e) → get_or (places_from k img (after img p) e) j 0 < e) → (i : ℕ) → i < length (when b (λ _. p ∷ places_from k img (after img p) e) []) → get_or (when b (λ _. p ∷ places_from k img (after img p) e) []) i 0 < e
      by true l f zero h = ltb-true p e l
      by true l f (suc i) h = f i (omega (arith, h))
      by false l f i h = absurd (omega (arith, h))

  -- so many at most
  pub places_few : (k p e : ℕ) → length (places_from k img p e) ≤ k
  unfolding places_from
  places_few zero p e = omega arith
  places_few (suc k) p e = by (ltb p e) (places_few k (after img p) e)
    where
      by : (b : Bool) → length (places_from k img (after img p) e) ≤ k → length (when b (λ _. p ∷ places_from k img (after img p) e) []) ≤ suc k
      by true h = omega (arith, h)
      by false h = omega arith

  pub counted : (most n p e : ℕ) → n < most → p < e → n + length (places_from (most - n) img p e) ≡ n + 1 + length (places_from (most - (n + 1)) img (after img p) e)
  counted most n p e h l =
      let z : most - (n + 1) ≡ most - n - 1 = omega arith in
      let q = ap length (places_more (most - n) p e (λ w. omega arith) l) in
      rw z (omega (arith, q))
