-- The lines of a listing (01: Sample contracts; 02: P3): a word's index, a space, 16 hex digits, and a space and `+` where its top bits are not zero.
-- Assumes nothing.
use Rattle.std.specs.Prelude.{List, [], ◌∷◌, ◌++◌, ℕ, zero, suc, ◌+◌, ◌*◌, ◌/◌, ◌%◌, ◌^◌, min, ltb, length}
use Rattle.isa.specs.Word.{top_of}
use Rattle.rules.specs.Bytes.{pick, le64}
use Rattle.rules.specs.Lent.{over}
use Rattle.rules.specs.Texts.{bytes, decimal}

-- 01: a hex digit: `0` to `9`, then `a` to `f`
unfoldable pub glyph : ℕ → ℕ
glyph d = pick (ltb d 10) (48 + d) (87 + d)

-- 01: the last k hex digits of a number
unfoldable pub hex_digits : ℕ → ℕ → List ℕ
hex_digits zero n = []
hex_digits (suc k) n = hex_digits k (n / 16) ++ (glyph (n % 16) ∷ [])

-- 02: P3: a space and `+` where the top bits are not zero
unfoldable pub flag : ℕ → List ℕ
flag zero = []
flag (suc t) = bytes " +"

-- 01: index and word in 16 hex digits; 02: P3: of any word, whether its low byte is an opcode or not
unfoldable pub line_of : (index word : ℕ) → List ℕ
line_of i w = decimal i ++ (bytes " " ++ (hex_digits 16 w ++ (flag (top_of w) ++ bytes "\n")))

-- 02: P3: the lines of the first n words of some bytes, 8 little-endian bytes each. An index has 64 bits.
unfoldable pub lines_of : (first : ℕ) (s : List ℕ) → ℕ → List ℕ
lines_of i s zero = []
lines_of i s (suc n) = lines_of i s n ++ line_of ((i + n) % 2 ^ 64) (le64 s (8 * n))

-- 02: P3: how many words are listed: the whole ones, as far as there is room, 40 bytes a line
unfoldable pub lined_in : (s out : List ℕ) → ℕ
lined_in s out = min (length s / 8) (length out / 40)

-- 02: P3: the lines that are listed
unfoldable pub lines_in : (first : ℕ) (s out : List ℕ) → List ℕ
lines_in i s out = lines_of i s (lined_in s out)

-- 02: P3: the slice at exit
unfoldable pub lines_bytes : (first : ℕ) (s out : List ℕ) → List ℕ
lines_bytes i s out = over (lines_in i s out) out
