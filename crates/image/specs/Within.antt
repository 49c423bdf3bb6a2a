-- What the check of a record's parts comes to, as the code has it.
-- Assumes nothing.
use Rattle.std.specs.Prelude.{ℕ, suc, ◌+◌, ◌-◌, ◌*◌, ◌≤◌, ◌<◌, List, ◌≡◌, Bool, eqb, ltb}
use Rattle.rules.specs.Bytes.{pick, ◌or◌}
use Rattle.rules.specs.Check.{children_of, record_of}
use Rattle.rules.specs.Seen.{Seen, Sound, Fault}
use Rattle.image.specs.Rows.{dues_of}

-- All the parts, from the first on, of a record of kind k where d was due.
unfoldable pub parts_in : ℕ → List ℕ → ℕ → ℕ → ℕ → ℕ → ℕ → Seen
parts_in left s from end d k vars = children_of (record_of left) (suc (end - from)) s from end d k 0 vars

-- A record whose length is `size` does not stand in `room` bytes.
unfoldable pub short : ℕ → ℕ → Bool
short size room = ltb size 2 or ltb room (4 + size)

-- The refusal of the first test of a header that holds, but for that of its own bytes.
unfoldable pub first_of : Bool → Bool → Bool → Bool → ℕ
first_of a b c d = pick a 2 (pick b 6 (pick c 3 (pick d 7 0)))

-- A fault as one number, where d is due: where nothing is, any record is one too many.
unfoldable pub fault_of : ℕ → ℕ → ℕ → ℕ
fault_of d number place = pick (eqb d 0) 4 number * 4294967296 + place

-- An answer as one number: the count where the parts reach the end, which no fault is.
abbrev pub Told : ℕ → Seen → ℕ → Type 0
Told end (Sound q m) r = (q ≡ end) × (r ≡ m) × (m + 6 ≤ end)
Told end (Fault number place) r = (r ≡ number * 4294967296 + place) × (0 < number) × (place < 4294967296)

-- Whatever record it is in which these are due.
abbrev pub Parts : ℕ → List ℕ → ℕ → ℕ → ℕ → ℕ → ℕ → Type 0
Parts left s from end dues vars r = (d k : ℕ) → dues ≡ dues_of d k 0 → Told end (parts_in left s from end d k vars) r
