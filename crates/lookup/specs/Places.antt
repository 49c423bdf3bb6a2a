-- The places of records, a record at a time.
-- Assumes nothing.
use Rattle.std.specs.Prelude.{List, [], ◌∷◌, map, ◌≡◌, length}
use Rattle.std.proofs.Math.Path.{refl}
use Rattle.std.proofs.Common.{ap, sub-one, arith, lt-ltb, le-ltb}
use Prim.Native.Nat.{ℕ, zero, suc, ◌-◌, ◌≤◌, ◌<◌}
use Rattle.rules.specs.Bytes.{after}
use Rattle.rules.specs.Read.{places_from}

module _ (img : List ℕ) where
  pub places_zero : (k p e : ℕ) → k ≡ 0 → places_from k img p e ≡ []
  unfolding places_from
  places_zero zero p e h = refl
  places_zero (suc k) p e h = absurd (omega arith)

  pub places_end : (k p e : ℕ) → e ≤ p → places_from k img p e ≡ []
  unfolding places_from
  places_end zero p e h = refl
  places_end (suc k) p e h = simp (le-ltb _ _ h)

  pub places_more : (k p e : ℕ) → (k ≡ 0 → ⊥) → p < e → places_from k img p e ≡ p ∷ places_from (k - 1) img (after img p) e
  unfolding places_from
  places_more zero p e h l = absurd (h refl)
  places_more (suc k) p e h l = simp (lt-ltb _ _ l, sub-one)

pub length_map : {A B : Type 0} (f : A → B) (l : List A) → length (map f l) ≡ length l
length_map f [] = refl
length_map f (a ∷ l) = ap suc (length_map f l)
