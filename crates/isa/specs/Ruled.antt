-- Laws of a table that says what is known of each low byte (02: P7): the decisions that it replaces come out as before.
-- Assumes nothing.
use Rattle.std.specs.Prelude.{◌≡◌, ℕ, zero, suc, ◌+◌, ◌*◌, ◌/◌, ◌%◌, ◌^◌, ◌<◌, ◌≤◌, Bool, true, false, cond, T, List, [], ◌∷◌, length, get_or, ◌==◌, ◌≢◌, nat_eq, nat_lt, slice_index, slice_index_or, refl, None, Option, Some}
use Rattle.std.proofs.Common.{sym, ap, ◌∙◌, arith, eqb→eq, ltb-true, ltb-false, eqb-true}
use Rattle.std.proofs.Math.ListN.{get_or-eq_default}
use Rattle.std.proofs.lemmas.Bool.{eqb-false}
use Rattle.isa.specs.declared.Opcode.{Opcode}
use Rattle.isa.specs.declared.Opcode.TheVariants.{Halt, VerifyMerkle}
use Rattle.isa.specs.declared.Height.{Height}
use Rattle.isa.specs.declared.Height.TheVariants.{Same, Up, Down, Call, Ret}
use Rattle.isa.specs.declared.Fact.{Fact}
use Rattle.isa.specs.declared.Instruction.{Instruction}
use Rattle.isa.specs.Word.{number_of, opcodes, opcode_of, read_as_lem, decode_of, alone, decode_any_of, patch_as, patch_of}
use Rattle.isa.specs.Facts.{row_of, fact_of, height_in, fact_in, Ruled, opcode_by, decode_by, decode_any_by, patch_by}
use Rattle.isa.specs.Every.{every, every_at}
use Rattle.isa.specs.Laws.{opcode_number, number_below, each_opcode, decodes}

-- A fact as the entry that says it.
bit : Bool → ℕ
bit true = 1
bit false = 0

-- Each height's number.
unfoldable pub change : Height → ℕ
change Same = 0
change Up = 1
change Down = 2
change Call = 3
change Ret = 4

entry_of : Fact → ℕ
entry_of f = bit f.rd + 2 * bit f.rs1 + 4 * bit f.rs2 + 8 * bit f.imm + 16 * bit f.known + 32 * change f.height

bit_low : (b : Bool) → bit b ≤ 1
unfolding bit
bit_low true = omega arith
bit_low false = omega arith

bit_is : (n : ℕ) (b : Bool) → n ≡ bit b → (n == 1) ≡ b
unfolding bit
bit_is n true e = ap (λ (m : ℕ). nat_eq m 1) e
bit_is n false e = ap (λ (m : ℕ). nat_eq m 1) e

pub change_is : (h : Height) → height_in (change h) ≡ h
unfolding height_in change
change_is Same = refl
change_is Up = refl
change_is Down = refl
change_is Call = refl
change_is Ret = refl

-- Each part of an entry.
module _ (a b c d e : Bool) (h : ℕ) where
  bit_0 : (bit a + 2 * bit b + 4 * bit c + 8 * bit d + 16 * bit e + 32 * h) / 1 % 2 ≡ bit a
  bit_0 = omega (arith, bit_low a, bit_low b, bit_low c, bit_low d, bit_low e)

  bit_1 : (bit a + 2 * bit b + 4 * bit c + 8 * bit d + 16 * bit e + 32 * h) / 2 % 2 ≡ bit b
  bit_1 = omega (arith, bit_low a, bit_low b, bit_low c, bit_low d, bit_low e)

  bit_2 : (bit a + 2 * bit b + 4 * bit c + 8 * bit d + 16 * bit e + 32 * h) / 4 % 2 ≡ bit c
  bit_2 = omega (arith, bit_low a, bit_low b, bit_low c, bit_low d, bit_low e)

  bit_3 : (bit a + 2 * bit b + 4 * bit c + 8 * bit d + 16 * bit e + 32 * h) / 8 % 2 ≡ bit d
  bit_3 = omega (arith, bit_low a, bit_low b, bit_low c, bit_low d, bit_low e)

  bit_4 : (bit a + 2 * bit b + 4 * bit c + 8 * bit d + 16 * bit e + 32 * h) / 16 % 2 ≡ bit e
  bit_4 = omega (arith, bit_low a, bit_low b, bit_low c, bit_low d, bit_low e)

  bits_5 : (bit a + 2 * bit b + 4 * bit c + 8 * bit d + 16 * bit e + 32 * h) / 32 ≡ h
  bits_5 = omega (arith, bit_low a, bit_low b, bit_low c, bit_low d, bit_low e)

entry_says : (f : Fact) → fact_in (entry_of f) ≡ f
unfolding fact_in entry_of
entry_says f = λ i. record {
  known = bit_is _ _ (bit_4 f.rd f.rs1 f.rs2 f.imm f.known (change f.height)) i;
  rd = bit_is _ _ (bit_0 f.rd f.rs1 f.rs2 f.imm f.known (change f.height)) i;
  rs1 = bit_is _ _ (bit_1 f.rd f.rs1 f.rs2 f.imm f.known (change f.height)) i;
  rs2 = bit_is _ _ (bit_2 f.rd f.rs1 f.rs2 f.imm f.known (change f.height)) i;
  imm = bit_is _ _ (bit_3 f.rd f.rs1 f.rs2 f.imm f.known (change f.height)) i;
  height = (ap height_in (bits_5 f.rd f.rs1 f.rs2 f.imm f.known (change f.height)) ∙ change_is f.height) i;
}

-- 02: P7: the rule over a whole table is one test, which is computed: each entry is that of its byte.
unfoldable pub ruled_by : ℕ → ℕ → Bool
unfolding entry_of bit change fact_of opcode_of
ruled_by n e = e == entry_of (fact_of (opcode_of n))

pub ruled : (t : List ℕ) → length t ≡ 256 → T (every ruled_by 0 t) → Ruled t
unfolding ruled_by
ruled t l h = record {
  says = λ n b.
      let g : n < length t = omega (arith, l) in
      ap fact_in (eqb→eq (slice_index t n) (entry_of (fact_of (opcode_of n))) (every_at ruled_by t h 0 n g)) ∙ entry_says (fact_of (opcode_of n));
}

-- A match on a number that has passed k.
pub passed : (k n : ℕ) → k ≤ n → (n ≢ k) → suc k ≤ n
passed k n h d = omega (arith, d)

-- Past the four heights that are listed it is a Ret's.
pub height_last : (n : ℕ) → 4 ≤ n → Ret ≡ height_in n
unfolding height_in
height_last n h = sym (get_or-eq_default (Same ∷ Up ∷ Down ∷ Call ∷ []) Ret h)

row_known : (o : Opcode) → (row_of o).known ≡ true
row_known o = by (row_of o).known (each_opcode (λ (p : Opcode). (row_of p).known) tt o)
  where
    by : (b : Bool) → T b → b ≡ true
    by true t = refl
    by false t = absurd t

-- Of an opcode a ruled table says its row.
pub row_at : (t : List ℕ) → Ruled t → (o : Opcode) → fact_in (slice_index t (number_of o)) ≡ row_of o
unfolding fact_of
row_at t r o = r.says (number_of o) (omega (arith, number_below o)) ∙ ap fact_of (opcode_number o)

-- Of a word that is read, its opcode's.
pub row_read : (t : List ℕ) → Ruled t → (w : ℕ) (i : Instruction) → decode_any_of w ≡ Some i → fact_in (slice_index t (w % 2 ^ 8)) ≡ row_of i.opcode
unfolding decode_any_of
row_read t r w i q = by (decode_of w) refl q
  where
    by : (d : Option (Instruction × ℕ)) → decode_of w ≡ d → alone d ≡ Some i → fact_in (slice_index t (w % 2 ^ 8)) ≡ row_of i.opcode
    by None e f = absurd (let z : ◌≡◌ {A = ℕ} 0 1 = cc in omega arith)
    by (Some (j, u)) e f =
        let p : j ≡ i = cc in
        ap (λ (n : ℕ). fact_in (slice_index t n)) (sym (decodes w j u e).opcode) ∙ row_at t r j.opcode ∙ ap (λ (k : Instruction). row_of k.opcode) p

-- Whether a byte is an opcode.
pub known_at : (t : List ℕ) → Ruled t → (n : ℕ) → n < 256 → (fact_in (slice_index t n)).known ≡ nat_lt n 31
unfolding fact_of opcode_of
known_at t r n h = ap (λ (f : Fact). f.known) (r.says n h) ∙ by (nat_lt n 31)
  where
    by : (b : Bool) → (fact_of (cond b (Some (slice_index_or opcodes n Halt)) None)).known ≡ b
    by true = row_known (slice_index_or opcodes n Halt)
    by false = refl

-- The same, of what was told of it.
pub is_opcode : (t : List ℕ) → Ruled t → (n : ℕ) → n < 256 → {f : Fact} → f ≡ fact_in (slice_index t n) → f.known ≡ true → n < 31
is_opcode t r n h e k = ltb-true n 31 (sym (known_at t r n h) ∙ ap (λ (g : Fact). g.known) (sym e) ∙ k)

pub no_opcode : (t : List ℕ) → Ruled t → (n : ℕ) → n < 256 → {f : Fact} → f ≡ fact_in (slice_index t n) → f.known ≡ false → 31 ≤ n
no_opcode t r n h e k = ltb-false n 31 (sym (known_at t r n h) ∙ ap (λ (g : Fact). g.known) (sym e) ∙ k)

-- Past all others it is the last opcode's.
pub opcode_last : (n : ℕ) → 30 ≤ n → VerifyMerkle ≡ slice_index_or opcodes n VerifyMerkle
opcode_last n h = by (n == 30) refl
  where
    by : (b : Bool) → (n == 30) ≡ b → VerifyMerkle ≡ slice_index_or opcodes n VerifyMerkle
    by true e = ap (λ (k : ℕ). get_or opcodes k VerifyMerkle) (sym (eqb-true n 30 e))
    by false e = let g : 31 ≤ n = omega (arith, eqb-false n 30 e) in sym (get_or-eq_default opcodes VerifyMerkle g)

-- Within a list it does not matter what stands for what is past it.
listed : {A : Type 0} (l : List A) (n : ℕ) (a b : A) → n < length l → slice_index_or l n a ≡ slice_index_or l n b
listed [] n a b h = absurd (omega arith)
listed (x ∷ l) zero a b h = refl
listed (x ∷ l) (suc n) a b h = listed l n a b (omega arith)

-- 02: P7: by a ruled table each decision is as it is defined: the opcode of a byte, a word read, its fields alone, a patch.
pub opcode_by_lem : (t : List ℕ) → Ruled t → (n : ℕ) → n < 256 → opcode_by t n ≡ opcode_of n
unfolding opcode_by opcode_of
opcode_by_lem t r n h = ap (λ (b : Bool). cond b (Some (slice_index_or opcodes n VerifyMerkle)) None) (known_at t r n h) ∙ by (nat_lt n 31) refl
  where
    by : (b : Bool) → nat_lt n 31 ≡ b → cond b (Some (slice_index_or opcodes n VerifyMerkle)) None ≡ cond b (Some (slice_index_or opcodes n Halt)) None
    by true e = ap Some (listed opcodes n VerifyMerkle Halt (ltb-true n 31 e))
    by false e = refl

pub decode_by_lem : (t : List ℕ) → Ruled t → (w : ℕ) → decode_by t w ≡ decode_of w
unfolding decode_by decode_of
decode_by_lem t r w = ap (read_as_lem w) (opcode_by_lem t r (w % 2 ^ 8) (omega arith))

pub any_by : (t : List ℕ) → Ruled t → (w : ℕ) → decode_any_by t w ≡ decode_any_of w
unfolding decode_any_by decode_any_of
any_by t r w = ap alone (decode_by_lem t r w)

pub patch_by_lem : (t : List ℕ) → Ruled t → (w k : ℕ) → patch_by t w k ≡ patch_of w k
unfolding patch_by patch_of
patch_by_lem t r w k = ap (patch_as k) (decode_by_lem t r w)
