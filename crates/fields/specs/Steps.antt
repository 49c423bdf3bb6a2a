-- The Fields of a List and the structs of an image, one at a time.
-- Assumes nothing.
use Rattle.std.specs.Prelude.{true, false, List, [], ◌∷◌, map, ◌≡◌, ℕ, ◌+◌, ◌-◌, ◌≤◌, ◌<◌, length, None, Some}
use Rattle.std.proofs.Math.Path.{refl}
use Rattle.std.proofs.Common.{add-one, drop_of_length-le}
use native.Mathlib.Omega.{arith}
use Rattle.rules.specs.Bytes.{pick, Name, eq_name, after}
use Rattle.rules.specs.Tables.{or_else, first_index}
use Rattle.rules.specs.Tree.{Field}
use Rattle.rules.specs.Read.{places_from, name_in, field_at, contract_at}
use Rattle.rules.specs.Layout.{layouts, positions}
use Rattle.records.specs.Places.{places_zero, places_end, places_more}
use Rattle.tables.specs.Listed.{structs_in}
use Rattle.fields.specs.Spots.{positions_from}

-- The Fields from place p and position n on, m in all at most.
module _ (img : List ℕ) (x : Name) (m n p e : ℕ) where
  -- m were read: the field is none of the rest.
  pub field_zero : m ≤ n → None ≡ first_index (λ (f : Field). f.name) n x (map (field_at img) (places_from (m - n) img p e))
  unfolding first_index
  field_zero h = rw (places_zero img (m - n) p e (omega arith))

  -- The List ends: the same.
  pub field_end : e ≤ p → None ≡ first_index (λ (f : Field). f.name) n x (map (field_at img) (places_from (m - n) img p e))
  unfolding first_index
  field_end h = rw (places_end img (m - n) p e h)

  -- The Field at p has the name.
  pub field_here : n < m → p < e → eq_name (name_in img p) x ≡ true → Some n ≡ first_index (λ (f : Field). f.name) n x (map (field_at img) (places_from (m - n) img p e))
  unfolding first_index field_at or_else pick
  field_here h l q = rw (places_more img (m - n) p e (λ z. omega arith) l, q)

  -- It has another.
  pub field_next : n < m → p < e → eq_name (name_in img p) x ≡ false
      → first_index (λ (f : Field). f.name) n x (map (field_at img) (places_from (m - n) img p e)) ≡ first_index (λ (f : Field). f.name) (n + 1) x (map (field_at img) (places_from (m - (n + 1)) img (after img p) e))
  unfolding first_index field_at or_else pick
  field_next h l q = let z : m - (n + 1) ≡ m - n - 1 = omega arith in rw (z, places_more img (m - n) p e (λ y. omega arith) l, q, add-one)

-- The Fields at some places, from position n on.
module _ (img : List ℕ) (x : Name) (n : ℕ) where
  pub left_none : {ps : List ℕ} → ps ≡ [] → None ≡ first_index (λ (f : Field). f.name) n x (map (field_at img) ps)
  unfolding first_index
  left_none h = rw h

  -- The first has the name.
  pub left_here : {ps qs : List ℕ} {p : ℕ} → ps ≡ p ∷ qs → eq_name (name_in img p) x ≡ true → Some n ≡ first_index (λ (f : Field). f.name) n x (map (field_at img) ps)
  unfolding first_index field_at or_else pick
  left_here h q = rw (h, q)

  -- It has another.
  pub left_next : {ps qs : List ℕ} {p : ℕ} → ps ≡ p ∷ qs → eq_name (name_in img p) x ≡ false
      → first_index (λ (f : Field). f.name) n x (map (field_at img) ps) ≡ first_index (λ (f : Field). f.name) (n + 1) x (map (field_at img) qs)
  unfolding first_index field_at or_else pick
  left_next h q = rw (h, q, add-one)

module _ (img : List ℕ) (x : Name) where
  -- The structs from the first on are all of them.
  pub all : positions x (layouts (contract_at img).structs) ≡ positions_from img x 0
  unfolding positions_from contract_at
  all = refl

  -- Behind the last there is none.
  pub past_all : (i : ℕ) → length (structs_in img) ≤ i → positions_from img x i ≡ []
  unfolding positions_from layouts positions
  past_all i h = rw (drop_of_length-le (structs_in img) h)
