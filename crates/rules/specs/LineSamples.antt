-- The lines of a listing (02: P3), computed.
-- Assumes nothing.
use Rattle.std.specs.Prelude.{◌≡◌, refl, [], ◌∷◌, ◌++◌, ◌+◌, ◌-◌, ◌^◌, length, replicate}
use Rattle.rules.specs.Bytes.{pick, le16, le32, le64}
use Rattle.rules.specs.Lent.{word_bytes}
use Rattle.rules.specs.Texts.{bytes, higher, digits, decimal}
use Rattle.rules.specs.Lines.{glyph, hex_digits, flag, line_of, lines_of, lined_in, lines_in, lines_bytes}

-- 02: P3: lines of words, then of bytes
record Samples : Type 0 where
  ret : line_of 0 0x13 ≡ bytes "0 0000000000000013\n"
  digits_all : line_of 1234567890 0x0123456789abcdef ≡ bytes "1234567890 0123456789abcdef +\n"
  bit_54 : line_of 1 (2 ^ 54) ≡ bytes "1 0040000000000000\n"
  bit_55 : line_of 2 (2 ^ 55) ≡ bytes "2 0080000000000000 +\n"
  bit_63 : line_of 3 (2 ^ 63 + 0x13) ≡ bytes "3 8000000000000013 +\n"
  no_opcode : line_of 4 0xff ≡ bytes "4 00000000000000ff\n"
  no_opcode_flagged : line_of 5 0xff8000000000001f ≡ bytes "5 ff8000000000001f +\n"
  longest : length (line_of (2 ^ 64 - 1) (2 ^ 64 - 1)) ≡ 40
  none : lines_in 0 (replicate 7 255) (replicate 40 7) ≡ []
  left_over : lines_in 9 (word_bytes 0x13 ++ (word_bytes (2 ^ 55) ++ (1 ∷ []))) (replicate 80 7) ≡ bytes "9 0000000000000013\n10 0080000000000000 +\n"
  no_room : lines_in 0 (word_bytes 0x13 ++ word_bytes 0x13) (replicate 79 7) ≡ bytes "0 0000000000000013\n"
  last_index : lines_in (2 ^ 64 - 1) (word_bytes 0x13 ++ word_bytes 0x13) (replicate 80 7) ≡ bytes "18446744073709551615 0000000000000013\n0 0000000000000013\n"
  as_lent : lines_bytes 0 (word_bytes 0x13) (replicate 42 7) ≡ bytes "0 0000000000000013\n" ++ replicate 23 7

-- 02: P3, by computation
samples : Samples
unfolding pick le16 le32 le64 word_bytes bytes higher digits decimal glyph hex_digits flag line_of lines_of lined_in lines_in lines_bytes
samples = record {
  ret = refl;
  digits_all = refl;
  bit_54 = refl;
  bit_55 = refl;
  bit_63 = refl;
  no_opcode = refl;
  no_opcode_flagged = refl;
  longest = refl;
  none = refl;
  left_over = refl;
  no_room = refl;
  last_index = refl;
  as_lent = refl;
}
