-- Eight bytes tested at once: the digits of a number to the base 256, under sums with no carry and under bit operations.
-- Assumes nothing.
use mathlib.Core.Path.{◌≡◌, ◌∙◌, sym, ap, ap₂, subst}
use mathlib.Core.Bool.{Bool, true, false}
use mathlib.Core.List.{List, [], ◌∷◌}
use Prim.Native.Nat.{ℕ, ◌+◌, ◌*◌, ◌≤◌, ◌<◌}
use native.Mathlib.Omega.{arith}
use borrow.Author.Tests.{eq-eqb, ltb-true}
use lib.Bits.{bit_and, bit_xor, and_block, xor_block, and_le_r, xor_lt}
use lib.Dec.{T, eqb, ltb}
use lib.ListN.{get_or}
use Rattle.rules.specs.Bytes.{byte_at, le16, le32, name_byte_lem}
use Rattle.image.specs.Names.{Fours}
use Rattle.image.proofs.Every.{by_cases, every_at, truth}

-- What follows where a test holds.
abbrev then : Bool → Bool → Bool
then true b = b
then false b = true

follows : (a b : Bool) → T (then a b) → a ≡ true → T b
follows true b t e = t
follows false b t e = absurd (subst T (sym e) tt)

-- The numbers that have these digits; and that have c for each.
abbrev pack : List ℕ → ℕ
pack [] = 0
pack (b ∷ bs) = pack bs * 256 + b

abbrev all : ℕ → List ℕ → ℕ
all c [] = 0
all c (b ∷ bs) = all c bs * 256 + c

abbrev Below : ℕ → List ℕ → Type 0
Below n [] = Unit {0}
Below n (b ∷ bs) = (b < n) × Below n bs

abbrev Names : List ℕ → Type 0
Names [] = Unit {0}
Names (b ∷ bs) = (name_byte_lem b ≡ true) × Names bs

-- No top bit is set.
byte_clear : (b : ℕ) → b < 256 → bit_and b 128 ≡ 0 → b < 128
byte_clear b h e =
    ltb-true b 128 (truth (ltb b 128) (follows (eqb (bit_and b 128) 0) (ltb b 128) (every_at 256 (λ (x : ℕ). then (eqb (bit_and x 128) 0) (ltb x 128)) b tt h) (eq-eqb (bit_and b 128) 0 e)))

clear : (bs : List ℕ) → Below 256 bs → bit_and (pack bs) (all 128 bs) ≡ 0 → Below 128 bs
clear [] h e = tt
clear (b ∷ bs) h e =
    let z = sym (and_block 8 (pack bs) (all 128 bs) b 128 h.0 (omega arith)) ∙ e in
    (byte_clear b h.0 (omega (arith, z)), clear bs h.1 (omega (arith, z)))

-- The ends that a digit has passed, told by the top bit of a sum: k c is c for each digit.
abbrev pair : ℕ → ℕ → ℕ → ℕ
pair w c d = bit_xor (w + c) (w + d)

abbrev chain : ℕ → (ℕ → ℕ) → ℕ
chain w k = bit_xor (bit_xor (pair w (k 80) (k 69)) (pair w (k 63) (k 37))) (bit_xor (pair w (k 33) (k 32)) (pair w (k 31) (k 5)))

pair_step : (w b C D c d : ℕ) → b + c < 256 → b + d < 256 → pair (w * 256 + b) (C * 256 + c) (D * 256 + d) ≡ pair w C D * 256 + pair b c d
pair_step w b C D c d h l =
    let x : w * 256 + b + (C * 256 + c) ≡ (w + C) * 256 + (b + c) = omega arith in
    let y : w * 256 + b + (D * 256 + d) ≡ (w + D) * 256 + (b + d) = omega arith in
    ap₂ bit_xor x y ∙ xor_block 8 (w + C) (w + D) (b + c) (b + d) h l

join : (x y X Y a b : ℕ) → x ≡ X * 256 + a → y ≡ Y * 256 + b → a < 256 → b < 256 → bit_xor x y ≡ bit_xor X Y * 256 + bit_xor a b
join x y X Y a b e f h l = ap₂ bit_xor e f ∙ xor_block 8 X Y a b h l

chain_step : (b : ℕ) (bs : List ℕ) → b < 128 → chain (pack (b ∷ bs)) (λ (c : ℕ). all c (b ∷ bs)) ≡ chain (pack bs) (λ (c : ℕ). all c bs) * 256 + chain b (λ (c : ℕ). c)
chain_step b bs h =
    let w = pack bs in
    let p1 = pair_step w b (all 80 bs) (all 69 bs) 80 69 (omega arith) (omega arith) in
    let p2 = pair_step w b (all 63 bs) (all 37 bs) 63 37 (omega arith) (omega arith) in
    let p3 = pair_step w b (all 33 bs) (all 32 bs) 33 32 (omega arith) (omega arith) in
    let p4 = pair_step w b (all 31 bs) (all 5 bs) 31 5 (omega arith) (omega arith) in
    let l1 = xor_lt 8 (b + 80) (b + 69) (omega arith) (omega arith) in
    let l2 = xor_lt 8 (b + 63) (b + 37) (omega arith) (omega arith) in
    let l3 = xor_lt 8 (b + 33) (b + 32) (omega arith) (omega arith) in
    let l4 = xor_lt 8 (b + 31) (b + 5) (omega arith) (omega arith) in
    join _ _ _ _ _ _ (join _ _ _ _ _ _ p1 p2 l1 l2) (join _ _ _ _ _ _ p3 p4 l3 l4) (xor_lt 8 _ _ l1 l2) (xor_lt 8 _ _ l3 l4)

byte_named : (b : ℕ) → b < 128 → bit_and (chain b (λ (c : ℕ). c)) 128 ≡ 128 → name_byte_lem b ≡ true
unfolding name_byte_lem
byte_named b h e =
    truth (name_byte_lem b) (follows (eqb (bit_and (chain b (λ (c : ℕ). c)) 128) 128) (name_byte_lem b)
    (every_at 128 (λ (x : ℕ). then (eqb (bit_and (chain x (λ (c : ℕ). c)) 128) 128) (name_byte_lem x)) b tt h) (eq-eqb (bit_and (chain b (λ (c : ℕ). c)) 128) 128 e))

named : (bs : List ℕ) → Below 128 bs → bit_and (chain (pack bs) (λ (c : ℕ). all c bs)) (all 128 bs) ≡ all 128 bs → Names bs
named [] h e = tt
named (b ∷ bs) h e =
    let X = chain (pack bs) (λ (c : ℕ). all c bs) in
    let x = chain b (λ (c : ℕ). c) in
    let s = chain_step b bs h.0 in
    let l : x < 256 = xor_lt 8 _ _ (xor_lt 8 _ _ (xor_lt 8 (b + 80) (b + 69) (omega arith) (omega arith)) (xor_lt 8 (b + 63) (b + 37) (omega arith) (omega arith)))
    (xor_lt 8 _ _ (xor_lt 8 (b + 33) (b + 32) (omega arith) (omega arith)) (xor_lt 8 (b + 31) (b + 5) (omega arith) (omega arith))) in
    let z : bit_and X (all 128 bs) * 256 + bit_and x 128 ≡ all 128 bs * 256 + 128
    = sym (and_block 8 X (all 128 bs) x 128 l (omega arith)) ∙ sym (ap (λ (y : ℕ). bit_and y (all 128 (b ∷ bs))) s) ∙ e in
    let m = and_le_r x 128 in
    (byte_named b h.0 (omega (arith, z, m)), named bs h.1 (omega (arith, z, m)))

-- The eight bytes at two places.
abbrev eight : List ℕ → ℕ → ℕ → List ℕ
eight s p q =
    byte_at s p ∷ byte_at s (p + 1) ∷ byte_at s (p + 2) ∷ byte_at s (p + 2 + 1) ∷ byte_at s q ∷ byte_at s (q + 1) ∷ byte_at s (q + 2) ∷ byte_at s (q + 2 + 1) ∷ []

word_is : (s : List ℕ) (p q : ℕ) → le32 s p + 4294967296 * le32 s q ≡ pack (eight s p q)
unfolding le32 le16
word_is s p q = omega arith

four : (s : List ℕ) (p k : ℕ) → name_byte_lem (byte_at s p) ≡ true → name_byte_lem (byte_at s (p + 1)) ≡ true → name_byte_lem (byte_at s (p + 2)) ≡ true
    → name_byte_lem (byte_at s (p + 2 + 1)) ≡ true → p ≤ k → k < p + 4 → name_byte_lem (byte_at s k) ≡ true
four s p k a b c d l h = by_cases (N k) (p + 2) k
    (λ g. by_cases (N k) (p + 3) k (λ i. let e : p + 2 + 1 ≡ k = omega arith in subst N e d) (λ i. let e : p + 2 ≡ k = omega arith in subst N e c))
    (λ g. by_cases (N k) (p + 1) k (λ i. let e : p + 1 ≡ k = omega arith in subst N e b) (λ i. let e : p ≡ k = omega arith in subst N e a))
  where
    N : ℕ → Type 0
    N x = name_byte_lem (byte_at s x) ≡ true

module _ (s : List ℕ) (p q : ℕ) (h : (k : ℕ) → get_or s k 0 < 256) (e : bit_and (le32 s p + 4294967296 * le32 s q) 9259542123273814144 ≡ 0) where
  low : Below 128 (eight s p q)
  low = clear (eight s p q) (h p, (h (p + 1), (h (p + 2), (h (p + 2 + 1), (h q, (h (q + 1), (h (q + 2), (h (q + 2 + 1), tt))))))))
      (subst (λ (w : ℕ). bit_and w 9259542123273814144 ≡ 0) (word_is s p q) e)

  -- So no sum wraps.
  pub room : le32 s p + 4294967296 * le32 s q ≤ 9187201950435737471
  room = let l = low in omega (arith, word_is s p q, l)

  pub fours : bit_and (chain (le32 s p + 4294967296 * le32 s q) (λ (c : ℕ). c * 72340172838076673)) 9259542123273814144 ≡ 9259542123273814144 → Fours s p q
  fours g =
      let n = named (eight s p q) low (subst (λ (w : ℕ). bit_and (chain w (λ (c : ℕ). c * 72340172838076673)) 9259542123273814144 ≡ 9259542123273814144) (word_is s p q) g) in
      (λ k. four s p k n.0 n.1.0 n.1.1.0 n.1.1.1.0, λ k. four s q k n.1.1.1.1.0 n.1.1.1.1.1.0 n.1.1.1.1.1.1.0 n.1.1.1.1.1.1.1.0)

-- One to three bytes, with a fourth that is one of a name.
module _ (a b c : ℕ) (h : (a < 256) × (b < 256) × (c < 256)) (e : bit_and (a + 256 * b + 65536 * c + 805306368) 2155905152 ≡ 0) where
  few_is : a + 256 * b + 65536 * c + 805306368 ≡ pack (a ∷ b ∷ c ∷ 48 ∷ [])
  few_is = omega arith

  few_low : Below 128 (a ∷ b ∷ c ∷ 48 ∷ [])
  few_low = clear (a ∷ b ∷ c ∷ 48 ∷ []) (h.0, (h.1, (h.2, (omega arith, tt)))) (subst (λ (w : ℕ). bit_and w 2155905152 ≡ 0) few_is e)

  pub few_room : a + 256 * b + 65536 * c + 805306368 ≤ 2139062143
  few_room = let l = few_low in omega (arith, l)

  pub few : bit_and (chain (a + 256 * b + 65536 * c + 805306368) (λ (x : ℕ). x * 16843009)) 2155905152 ≡ 2155905152 → (name_byte_lem a ≡ true) × (name_byte_lem b ≡ true) × (name_byte_lem c ≡ true)
  few g =
      let n = named (a ∷ b ∷ c ∷ 48 ∷ []) few_low (subst (λ (w : ℕ). bit_and (chain w (λ (x : ℕ). x * 16843009)) 2155905152 ≡ 2155905152) few_is g) in
      (n.0, n.1.0, n.1.1.0)
