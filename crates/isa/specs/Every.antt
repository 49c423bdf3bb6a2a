-- A test that is computed over a whole list, carried to each of its entries.
-- Assumes nothing.
use Rattle.std.proofs.Common.{sym, subst, ◌∙◌, add-zero, zero-add, add-suc, suc-add, le_of_suc-le-suc, not-suc-le-zero}
use Rattle.std.specs.Prelude.{ℕ, zero, suc, ◌+◌, ◌<◌, Bool, true, false, T, List, [], ◌∷◌, length, slice_index_or}

abbrev both : Bool → Bool → Bool
both true b = b
both false b = false

both_left : (a b : Bool) → T (both a b) → T a
both_left true b t = tt
both_left false b t = t

both_right : (a b : Bool) → T (both a b) → T b
both_right true b t = t
both_right false b t = absurd t

module _ {A : Type 0} (f : ℕ → A → Bool) where
  -- The test holds of each entry and its index, counted from i.
  abbrev pub every : ℕ → List A → Bool
  every i [] = true
  every i (x ∷ xs) = both (f i x) (every (suc i) xs)

  every_from : (xs : List A) (i : ℕ) → T (every i xs) → (d : A) (k : ℕ) → k < length xs → T (f (i + k) (slice_index_or xs k d))
  every_from [] i t d k h = absurd (not-suc-le-zero h)
  every_from (x ∷ xs) i t d zero h = subst (λ (m : ℕ). T (f m x)) (sym (add-zero i)) (both_left (f i x) (every (suc i) xs) t)
  every_from (x ∷ xs) i t d (suc k) h =
      subst (λ (m : ℕ). T (f m (slice_index_or xs k d))) (suc-add i k ∙ sym (add-suc i k))
      (every_from xs (suc i) (both_right (f i x) (every (suc i) xs) t) d k (le_of_suc-le-suc h))

  -- So it holds of the entry at an index.
  pub every_at : (xs : List A) → T (every 0 xs) → (d : A) (k : ℕ) → k < length xs → T (f k (slice_index_or xs k d))
  every_at xs t d k h = subst (λ (m : ℕ). T (f m (slice_index_or xs k d))) (zero-add k) (every_from xs 0 t d k h)
