-- What is said of the texts (rules Texts) of an image's refusals: each has 256 bytes at most; and what generation refuses is told by its
-- number and its place, for its name is the one that the record there starts with.
-- Assumes nothing.
use Rattle.std.specs.Prelude.{◌≡◌, List, ℕ, ◌≤◌, length, eqb}
use Rattle.rules.specs.Bytes.{pick}
use Rattle.rules.specs.Read.{name_in}
use Rattle.rules.specs.Refusal.{Refusal, number_of, place_of}
use Rattle.rules.specs.Texts.{text_of}

-- A text has room in the slice.
abbrev pub Fits : Refusal → Type 0
Fits r = length (text_of r) ≤ 256

-- 000: the refusal of generation with a number, at a place: its name is the one that the record there starts with
unfoldable pub generated_as : List ℕ → (number place : ℕ) → Refusal
generated_as img n p =
    pick (eqb n 40) Refusal.no_main (pick (eqb n 41) (Refusal.exhausted p) (pick (eqb n 42) (Refusal.unread p (name_in img p))
    (pick (eqb n 43) (Refusal.unassigned p (name_in img p)) (pick (eqb n 44) (Refusal.storage_unwritten p (name_in img p))
    (pick (eqb n 45) (Refusal.mapping_unwritten p (name_in img p)) (pick (eqb n 46) (Refusal.storage_unread p (name_in img p))
    (Refusal.mapping_unread p (name_in img p))))))))

-- It is the one.
abbrev pub Own : List ℕ → Refusal → Type 0
Own img r = r ≡ generated_as img (number_of r) (place_of r)
