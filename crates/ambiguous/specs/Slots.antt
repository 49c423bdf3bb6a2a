-- A table from the keys of names to positions.
-- Assumes nothing.
use Rattle.std.specs.Prelude.{List, ◌≡◌, ℕ, zero, suc, ◌+◌, ◌*◌, ◌%◌, ◌<◌, eqb, get_or, Some}
use Rattle.rules.specs.Bytes.{pick, Name}
use Rattle.rules.specs.Tables.{first_index}
use Rattle.rules.specs.Tree.{Field}
use Rattle.rules.specs.Read.{fields_at}
use Rattle.records.specs.Keys.{key_of}

-- The value of a key: from slot h on, k slots at most, the first that has the key; 0 where a free one comes first or none has it.
unfoldable pub look : List ℕ → (key k h : ℕ) → ℕ
look t key zero h = 0
look t key (suc k) h = pick (eqb (get_or t (2 * h + 1) 0) 0) 0 (pick (eqb (get_or t (2 * h) 0) key) (get_or t (2 * h + 1) 0) (look t key k ((h + 1) % 509)))

-- The same from the key's own slot on.
abbrev pub looked : List ℕ → ℕ → ℕ
looked t key = look t key 509 (key % 509)

-- What is in the table t stays in u.
pub record Extends (t u : List ℕ) : Type 0 where
  pub keys : (h : ℕ) → (get_or t (2 * h + 1) 0 ≡ 0 → ⊥) → get_or u (2 * h) 0 ≡ get_or t (2 * h) 0
  pub values : (h : ℕ) → (get_or t (2 * h + 1) 0 ≡ 0 → ⊥) → get_or u (2 * h + 1) 0 ≡ get_or t (2 * h + 1) 0

-- h is the key's slot: once the key stands there, its value is the key's.
pub record Slot (t : List ℕ) (key h : ℕ) : Type 0 where
  pub below : h < 509
  pub held : (get_or t (2 * h + 1) 0 ≡ 0 → ⊥) → get_or t (2 * h) 0 ≡ key
  pub leads : (u : List ℕ) → Extends t u → get_or u (2 * h) 0 ≡ key → (get_or u (2 * h + 1) 0 ≡ 0 → ⊥) → looked u key ≡ get_or u (2 * h + 1) 0

-- u is t with the note that the field with this key stands at position n.
pub record Noted (t u : List ℕ) (key n : ℕ) : Type 0 where
  pub extends : Extends t u
  pub is : looked u key ≡ suc n

-- 01: For 30: every field of the List at l has its first position where the table says.
pub record Held (img t : List ℕ) (l : ℕ) : Type 0 where
  pub at : (x : Name) (n : ℕ) → first_index (λ (f : Field). f.name) 0 x (fields_at 64 img l) ≡ Some n → looked t (key_of x) ≡ suc n
