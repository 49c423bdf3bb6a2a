-- What a look-up says of the tree (contract_at).
--     function_is, struct_is     the last function, the last struct of a name
--     function_index_is, storage_index_is     the index of the last function, of the last storage field of a name
--     function_count_is, struct_count_is     how many there are
--     few     a List is read k records far
-- Assumes nothing.
use mathlib.Core.List.{List, [], ◌∷◌, map}
use Rattle.std.specs.Prelude.{Bool, ◌≡◌, ℕ, zero, suc, ◌≤◌, ltb, length, None, Option, Some}
use Rattle.std.proofs.Math.Bool.{true, false}
use Rattle.std.proofs.Math.Path.{refl}
use Rattle.std.proofs.Common.{◌∙◌, sym, arith}
use Rattle.std.proofs.lemmas.List.{length-map}
use Rattle.rules.specs.Bytes.{pick, Name, eq_name, name_at, inside, after}
use Rattle.rules.specs.Tables.{or_else, last, last_index, mapped}
use Rattle.rules.specs.Read.{when, places_from, places_in, name_in, field_at, fields_at, struct_at, function_at, contract_at}
use Rattle.rules.specs.Analyse.{function_name, struct_name, field_name}
use Rattle.tables.specs.declared.Found.{Found}
use Rattle.tables.specs.Listed.{Named, place_of, index_of, functions_in, structs_in, storage_in}

module _ {A : Type 0} (f : ℕ → A) (n : A → Name) (m : ℕ → Name) (same : (p : ℕ) → n (f p) ≡ m p) (x : Name) where
  mapped_pick : (b : Bool) (p : ℕ) → mapped f (pick b (Some p) None) ≡ pick b (Some (f p)) None
  unfolding mapped pick
  mapped_pick true p = refl
  mapped_pick false p = refl

  mapped_else : (a b : Option ℕ) → mapped f (or_else a b) ≡ or_else (mapped f a) (mapped f b)
  unfolding mapped or_else
  mapped_else (Some a) b = refl
  mapped_else None b = refl

  last_map : (l : List ℕ) → mapped f (last m x l) ≡ last n x (map f l)
  unfolding last mapped
  last_map [] = refl
  last_map (p ∷ l) = mapped_else (last m x l) (pick (eq_name (m p) x) (Some p) None) ∙ rw (mapped_pick (eq_name (m p) x) p, last_map l, same p)

  index_map : (i : ℕ) (l : List ℕ) → last_index m i x l ≡ last_index n i x (map f l)
  unfolding last_index
  index_map i [] = refl
  index_map i (p ∷ l) = rw (index_map (suc i) l, same p)

module _ (img : List ℕ) (x : ℕ) (r : Option Found) where
  pub function_is : Named img x (functions_in img) r → mapped (function_at img) (place_of r) ≡ last function_name (name_at img x) (contract_at img).functions
  unfolding contract_at function_at
  function_is h = rw h.place (last_map (function_at img) function_name (name_in img) (λ p. refl) (name_at img x) (functions_in img))

  pub function_index_is : Named img x (functions_in img) r → index_of r ≡ last_index function_name 0 (name_at img x) (contract_at img).functions
  unfolding contract_at function_at
  function_index_is h = rw h.index (index_map (function_at img) function_name (name_in img) (λ p. refl) (name_at img x) 0 (functions_in img))

  pub struct_is : Named img x (structs_in img) r → mapped (struct_at img) (place_of r) ≡ last struct_name (name_at img x) (contract_at img).structs
  unfolding contract_at struct_at
  struct_is h = rw h.place (last_map (struct_at img) struct_name (name_in img) (λ p. refl) (name_at img x) (structs_in img))

  pub storage_index_is : Named img x (storage_in img) r → index_of r ≡ last_index field_name 0 (name_at img x) (contract_at img).storage
  unfolding contract_at fields_at field_at
  storage_index_is h = rw h.index (index_map (field_at img) field_name (name_in img) (λ p. refl) (name_at img x) 0 (storage_in img))

-- as many as the tree has
pub function_count_is : (img : List ℕ) → length (functions_in img) ≡ length (contract_at img).functions
unfolding contract_at
function_count_is img = sym (length-map (functions_in img) (function_at img))

pub struct_count_is : (img : List ℕ) → length (structs_in img) ≡ length (contract_at img).structs
unfolding contract_at
struct_count_is img = sym (length-map (structs_in img) (struct_at img))

-- a List is read k records far
one_more : (k p : ℕ) (l : List ℕ) (b : Bool) → length l ≤ k → length (when b (λ _. p ∷ l) []) ≤ suc k
one_more k p l true h = omega arith
one_more k p l false h = omega arith

few_from : (k : ℕ) (img : List ℕ) (p e : ℕ) → length (places_from k img p e) ≤ k
unfolding places_from
few_from zero img p e = omega arith
few_from (suc k) img p e = one_more k p (places_from k img (after img p) e) (ltb p e) (few_from k img (after img p) e)

pub few : (k : ℕ) (img : List ℕ) (l : ℕ) → length (places_in k img l) ≤ k
few k img l = few_from k img (inside img l) (after img l)
