-- Which words have a number, and that such a word is read back from it.
-- Assumes nothing.
use Rattle.std.specs.Prelude.{◌≡◌, refl, List, [], ◌∷◌, map, ℕ, zero, suc, ◌-◌, ◌%◌, ◌^◌, ◌≤◌, ◌<◌, None, Some}
use Rattle.std.proofs.Common.{ap, ap₂, subst, ◌∙◌, arith}
use Rattle.isa.specs.declared.Instruction.{Instruction}
use Rattle.isa.specs.Word.{top_of, encode_of}
use Rattle.isa.specs.Laws.{any_encode, any_fields, word_below, no_top, signed_low, signed_high}
use Rattle.isa.specs.Laws as laws
use Rattle.isa.specs.Signed.{signed_of}
use Rattle.rules.specs.Machine.{Imm, Word, At, bits_of, instruction_of, number_of, imm_of, word_in, read}

-- 003: imm is an i32; less than nothing by a number is at least by one.
abbrev pub In32 : Imm → Type 0
In32 (Imm.pos n) = n < 2147483648
In32 (Imm.neg n) = (1 ≤ n) × (n ≤ 2147483648)

-- A word with a number: registers to 31, a distance of 32 bits.
pub record Encodable (w : Word) : Type 0 where
  pub rd : w.rd ≤ 31
  pub rs1 : w.rs1 ≤ 31
  pub rs2 : w.rs2 ≤ 31
  pub imm : In32 w.imm

-- Its imm's bits are below 2^32.
pub bits_below : (d : Imm) → In32 d → bits_of d < 4294967296
unfolding bits_of
bits_below (Imm.pos n) h = omega arith
bits_below (Imm.neg n) h = omega arith

-- The bits read as signed are the imm.
signed_bits : (d : Imm) → In32 d → imm_of (signed_of (bits_of d)) ≡ d
unfolding bits_of imm_of
signed_bits (Imm.pos n) h = ap imm_of (signed_low n h)
signed_bits (Imm.neg n) h =
    ap imm_of (signed_high (4294967296 - n) (omega arith)) ∙ ap Imm.neg (omega arith)

-- Encoding gives its number.
pub encoded : (w : Word) → Encodable w → encode_of (instruction_of w) 0 ≡ Some (number_of w)
unfolding instruction_of number_of
encoded w h = laws.encoded_plain (instruction_of w) (omega (arith, h.rd)) (omega (arith, h.rs1)) (omega (arith, h.rs2))

-- So it does of the fields cut to the widths of 003: 8 bits a register, 32 bits the imm.
pub encoded_cut : (w : Word) → Encodable w
    → encode_of (record { opcode = w.op; rd = w.rd % 256; rs1 = w.rs1 % 256; rs2 = w.rs2 % 256; imm = bits_of w.imm % 4294967296 }) 0 ≡ Some (number_of w)
unfolding instruction_of
encoded_cut w h =
    let a : w.rd % 256 ≡ w.rd = omega (arith, h.rd) in
    let b : w.rs1 % 256 ≡ w.rs1 = omega (arith, h.rs1) in
    let c : w.rs2 % 256 ≡ w.rs2 = omega (arith, h.rs2) in
    let d : bits_of w.imm % 4294967296 ≡ bits_of w.imm = omega (arith, bits_below w.imm h.imm) in
    ap (λ (i : Instruction). encode_of i 0) (λ i. record { opcode = w.op; rd = a i; rs1 = b i; rs2 = c i; imm = d i }) ∙ encoded w h

-- The number is below 2^55.
pub number_small : (w : Word) → Encodable w → number_of w < 2 ^ 55
unfolding instruction_of
number_small w h = word_below (instruction_of w) (number_of w) (bits_below w.imm h.imm) (encoded w h)

-- 02: P3: so it has no top bits.
no_top_bits : (w : Word) → Encodable w → top_of (number_of w) ≡ 0
no_top_bits w h = no_top (number_of w) (number_small w h)

-- Nor has any of a list.
pub all_no_top : (l : List Word) → ((i : ℕ) (w : Word) → At l i w → Encodable w) → (i n : ℕ) → At (map number_of l) i n → top_of n ≡ 0
all_no_top [] h i n a = absurd a
all_no_top (w ∷ l) h zero n a = subst (λ (m : ℕ). top_of m ≡ 0) a (no_top_bits w (h 0 w refl))
all_no_top (w ∷ l) h (suc i) n a = all_no_top l (λ j v b. h (suc j) v b) i n a

-- The word is read back from its number.
pub read_back : (w : Word) → Encodable w → read (number_of w) ≡ w
unfolding read word_in instruction_of
read_back w h =
    ap word_in (any_encode (instruction_of w) 0 (number_of w) (bits_below w.imm h.imm) (encoded w h))
    ∙ (λ i. record { op = w.op; rd = w.rd; rs1 = w.rs1; rs2 = w.rs2; imm = signed_bits w.imm h.imm i })

-- 02: P3: words that differ in their top bits alone are read alike.
pub read_alike : (v w : ℕ) → v % 2 ^ 55 ≡ w % 2 ^ 55 → read v ≡ read w
unfolding read
read_alike v w h = ap word_in (any_fields v w h)

-- Each word of a list is read back from its number.
pub all_read_back : (l : List Word) → ((i : ℕ) (w : Word) → At l i w → Encodable w) → map read (map number_of l) ≡ l
all_read_back [] h = refl
all_read_back (w ∷ l) h = ap₂ (λ (x : Word) (y : List Word). x ∷ y) (read_back w (h 0 w refl)) (all_read_back l (λ i v a. h (suc i) v a))
