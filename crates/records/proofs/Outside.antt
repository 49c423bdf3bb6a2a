-- Readings at the image's end: past it a byte is 0.
--     word_out, word_one, word_two, word_three    four bytes of which none, one, two or three are there
--     word_near, kind_near, name_near             what starts past the end may as well start at the end
-- Assumes nothing.
use mathlib.Core.List.{List}
use mathlib.Core.Path.{◌≡◌, refl, sym, ap, ◌∙◌}
use Prim.Native.Nat.{ℕ, ◌+◌, ◌*◌, ◌≤◌, min}
use native.Mathlib.Omega.{arith}
use lib.ListN.{length, get_or, get_or-eq_default}
use Rattle.rules.specs.Bytes.{le16, le32, kind_at, inside, after, name_at}
use Rattle.records.specs.Small.{word_bytes}
use Rattle.records.proofs.Eights.{by_cases}

module _ (img : List ℕ) where
  byte_out : (i : ℕ) → length img ≤ i → get_or img i 0 ≡ 0
  byte_out i h = get_or-eq_default img 0 h

  le16_out : (i : ℕ) → length img ≤ i → le16 img i ≡ 0
  unfolding le16
  le16_out i h = omega (arith, byte_out i h, byte_out (i + 1) (omega arith))

  pub word_out : (i : ℕ) → length img ≤ i → le32 img i ≡ 0
  unfolding le32
  word_out i h = omega (arith, le16_out i h, le16_out (i + 2) (omega arith))

  pub word_three : (i : ℕ) → length img ≤ i + 3 → le32 img i ≡ get_or img i 0 + 256 * get_or img (i + 1) 0 + 65536 * get_or img (i + 2) 0
  word_three i h = omega (arith, word_bytes img i, byte_out (i + 3) h)

  pub word_two : (i : ℕ) → length img ≤ i + 2 → le32 img i ≡ get_or img i 0 + 256 * get_or img (i + 1) 0
  word_two i h = omega (arith, word_three i (omega arith), byte_out (i + 2) h)

  pub word_one : (i : ℕ) → length img ≤ i + 1 → le32 img i ≡ get_or img i 0
  word_one i h = omega (arith, word_two i (omega arith), byte_out (i + 1) h)

  near : (f : ℕ → ℕ) → ((i : ℕ) → length img ≤ i → f i ≡ 0) → (i j : ℕ) → j ≡ min i (length img) → f j ≡ f i
  near f out i j e = by_cases (f j ≡ f i) (length img) i
      (λ h. out j (omega arith) ∙ sym (out i h))
      (λ h. ap f (omega arith))

  pub word_near : (i j : ℕ) → j ≡ min i (length img) → le32 img j ≡ le32 img i
  word_near = near (le32 img) word_out

  pub kind_near : (i j : ℕ) → j ≡ min i (length img) → kind_at img j ≡ kind_at img i
  kind_near = near (λ (i : ℕ). kind_at img i) (λ i h. le16_out (i + 4) (omega arith))

  pub name_near : (i j : ℕ) → j ≡ min i (length img) → name_at img j ≡ name_at img i
  unfolding name_at inside after
  name_near i j e = by_cases (name_at img j ≡ name_at img i) (length img) i
      (λ h.
      let a : after img j ≡ after img i = omega arith in
      let b : inside img j ≡ inside img i = omega arith in
      rw (a, b) refl)
      (λ h. ap (name_at img) (omega arith))
