-- What the array of the tables holds, and what a look-up in it gives.
--     functions_in, structs_in, storage_in     the places of an image's functions, structs and storage fields
--     bucket_in   the bucket of the name of the record at an index of the places ps
--     Newest     h - 1 is the last index below n whose bucket is b, and h is 0 where there is none
--     Listed     at base stands the count of the places ps, then the head of each bucket, then each place with the link beside it
--     Above      only cells from base on have changed
--     Cleared    the same, and the first n heads of the list at base are 0
--     Tabled     the three lists of an image, whose places stand in cells
--     Named      the last of the places ps whose record has the name at x, and its index
-- Assumes nothing.
use Rattle.std.specs.Prelude.{List, ◌≡◌, ℕ, ◌+◌, ◌-◌, ◌%◌, ◌≤◌, ◌<◌, length, get_or, None, Option, Some}
use Rattle.rules.specs.Bytes.{name_at}
use Rattle.rules.specs.Tables.{last, last_index}
use Rattle.rules.specs.Read.{second, third, fourth, places_in, name_in}
use Rattle.records.specs.Keys.{key_of}
use Rattle.records.specs.Cells.{place_in, number_in}
use Rattle.tables.specs.declared.Found.{Found}

abbrev pub functions_in : List ℕ → List ℕ
functions_in img = places_in 256 img (fourth img 0)

abbrev pub structs_in : List ℕ → List ℕ
structs_in img = places_in 64 img (third img 0)

abbrev pub storage_in : List ℕ → List ℕ
storage_in img = places_in 256 img (second img 0)

abbrev pub bucket_in : List ℕ → List ℕ → ℕ → ℕ
bucket_in img ps i = key_of (name_in img (get_or ps i 0)) % 61

pub record Newest (bucket : ℕ → ℕ) (n b h : ℕ) : Type 0 where
  pub within : h ≤ n
  pub same : 0 < h → bucket (h - 1) ≡ b
  pub others : (j : ℕ) → h ≤ j → j < n → bucket j ≡ b → ⊥

pub record Listed (img t : List ℕ) (base : ℕ) (ps : List ℕ) : Type 0 where
  pub count : get_or t base 0 ≡ length ps
  pub room : base + 62 + length ps ≤ length t
  pub places : (i : ℕ) → i < length ps → place_in (get_or t (base + 62 + i) 0) ≡ get_or ps i 0
  pub links : (i : ℕ) → i < length ps → Newest (bucket_in img ps) i (bucket_in img ps i) (number_in (get_or t (base + 62 + i) 0))
  pub heads : (b : ℕ) → b < 61 → Newest (bucket_in img ps) (length ps) b (get_or t (base + 1 + b) 0)

pub record Above (t₀ t : List ℕ) (base : ℕ) : Type 0 where
  pub size : length t ≡ length t₀
  pub below : (j : ℕ) → j < base → get_or t j 0 ≡ get_or t₀ j 0

pub record Cleared (t₀ t : List ℕ) (base n : ℕ) : Type 0 where
  pub above : Above t₀ t base
  pub heads : (b : ℕ) → b < n → get_or t (base + 1 + b) 0 ≡ 0

pub record Tabled (img t : List ℕ) : Type 0 where
  pub small : length img ≤ 65536
  pub size : length t ≡ 762
  pub functions : Listed img t 0 (functions_in img)
  pub structs : Listed img t 318 (structs_in img)
  pub storage : Listed img t 444 (storage_in img)

unfoldable pub index_of : Option Found → Option ℕ
index_of (Some f) = Some f.index
index_of None = None

unfoldable pub place_of : Option Found → Option ℕ
place_of (Some f) = Some f.place
place_of None = None

pub record Named (img : List ℕ) (x : ℕ) (ps : List ℕ) (r : Option Found) : Type 0 where
  pub place : place_of r ≡ last (name_in img) (name_at img x) ps
  pub index : index_of r ≡ last_index (name_in img) 0 (name_at img x) ps
