-- A place of an image and a number beside it, in one cell of an array: place + 2^17 x number.
--     place_in, number_in     what a cell holds
--     Beside                the cell r holds the number m and a place where the name at p stands: p itself, if it is in the image
--     beside                such a cell
-- Assumes nothing.
use Rattle.std.specs.Prelude.{List, ◌≡◌, ℕ, ◌+◌, ◌*◌, ◌/◌, ◌%◌, ◌≤◌, length}
use Rattle.std.proofs.Common.{ap, ◌∙◌, arith}
use Rattle.rules.specs.Bytes.{name_at}

abbrev pub place_in : ℕ → ℕ
place_in c = c % 131072

abbrev pub number_in : ℕ → ℕ
number_in c = c / 131072

pub record Beside (img : List ℕ) (p m r : ℕ) : Type 0 where
  pub name : name_at img (place_in r) ≡ name_at img p
  pub place : p ≤ length img → place_in r ≡ p
  pub number : number_in r ≡ m

pub beside : (img : List ℕ) (p q m : ℕ) → length img ≤ 65536 → q ≤ length img → name_at img q ≡ name_at img p → (p ≤ length img → q ≡ p) → Beside img p m (q + 131072 * m)
beside img p q m small h e g =
    let z : (q + 131072 * m) % 131072 ≡ q = omega arith in
    let y : (q + 131072 * m) / 131072 ≡ m = omega arith in
    record { name = ap (name_at img) z ∙ e; place = λ l. z ∙ g l; number = y }
