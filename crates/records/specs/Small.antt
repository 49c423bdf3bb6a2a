-- The numbers that bytes make.
--     half_bytes, kind_bytes, word_bytes     two bytes, a kind, four bytes, byte for byte
--     Bytes                      each byte is below 256 (what a `&[u8]` is known to hold)
--     half_small, word_small     two bytes are below 2^16, four below 2^32
-- Assumes nothing.
use Rattle.std.specs.Prelude.{List, ◌≡◌, refl, ℕ, ◌+◌, ◌*◌, ◌<◌, get_or}
use Rattle.std.proofs.Common.{subst, arith}
use Rattle.rules.specs.Bytes.{le16, le32, kind_at}

next : (s : List ℕ) (i j : ℕ) → i + 1 ≡ j → le16 s i ≡ get_or s i 0 + 256 * get_or s j 0
unfolding le16
next s i j z = subst (λ (m : ℕ). le16 s i ≡ get_or s i 0 + 256 * get_or s m 0) z refl

pub half_bytes : (s : List ℕ) (i : ℕ) → le16 s i ≡ get_or s i 0 + 256 * get_or s (i + 1) 0
half_bytes s i = next s i (i + 1) refl

pub kind_bytes : (s : List ℕ) (i : ℕ) → kind_at s i ≡ get_or s (i + 4) 0 + 256 * get_or s (i + 5) 0
kind_bytes s i = next s (i + 4) (i + 5) (omega arith)

pub word_bytes : (s : List ℕ) (i : ℕ) → le32 s i ≡ get_or s i 0 + 256 * get_or s (i + 1) 0 + 65536 * get_or s (i + 2) 0 + 16777216 * get_or s (i + 3) 0
unfolding le32
word_bytes s i = omega (arith, half_bytes s i, next s (i + 2) (i + 3) (omega arith))

abbrev pub Bytes : List ℕ → Type 0
Bytes s = (k : ℕ) → get_or s k 0 < 256

pub half_small : (s : List ℕ) → Bytes s → (i : ℕ) → le16 s i < 65536
half_small s b i = omega (arith, half_bytes s i, b i, b (i + 1))

pub word_small : (s : List ℕ) → Bytes s → (i : ℕ) → le32 s i < 4294967296
unfolding le32
word_small s b i = omega (arith, half_small s b i, half_small s b (i + 2))
