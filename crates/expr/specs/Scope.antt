-- The scope that an array of numbers holds: the count of names (512 at most), then for each its key, and the place of its Name with its register beside it.
-- A name counts only where its key is its own: then a search may look at the keys first, whatever the array holds.
-- Assumes nothing.
use Rattle.std.specs.Prelude.{List, [], ℕ, zero, suc, ◌+◌, ◌*◌, ◌%◌, min, eqb, get_or}
use Rattle.rules.specs.Bytes.{pick, Name, name_at}
use Rattle.rules.specs.Emit.{Scope, with_name}
use Rattle.records.specs.Keys.{key_of}
use Rattle.records.specs.Cells.{place_in, number_in}

-- The name with index k.
abbrev pub named : (img s : List ℕ) → ℕ → Name
named img s k = name_at img (place_in (get_or s (2 * k + 2) 0))

-- Its register: the low byte of the number beside the place.
abbrev pub reg_no : List ℕ → ℕ → ℕ
reg_no s k = number_in (get_or s (2 * k + 2) 0) % 256

-- The first k names, the newest first.
unfoldable pub scope_of : (img s : List ℕ) → ℕ → Scope
scope_of img s zero = []
scope_of img s (suc k) = pick (eqb (get_or s (2 * k + 1) 0) (key_of (named img s k))) (with_name (named img s k) (reg_no s k) (scope_of img s k)) (scope_of img s k)

-- All of them.
abbrev pub scope_in : (img s : List ℕ) → Scope
scope_in img s = scope_of img s (min (get_or s 0 0) 512)
