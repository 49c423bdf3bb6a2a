-- What is known of each low byte (02: P7), and words read by a table that says it.
-- Assumes nothing.
use Rattle.std.specs.Prelude.{◌≡◌, ℕ, ◌/◌, ◌%◌, ◌^◌, ◌<◌, Bool, true, false, cond, List, [], ◌∷◌, ◌==◌, slice_index, slice_index_or, None, Option, Some}
use Rattle.isa.specs.declared.Opcode.{Opcode}
use Rattle.isa.specs.declared.Opcode.TheVariants.{Halt, Add, Sub, Mul, Div, Inv, And, Or, Xor, Not, Eq, Neq, Lt, Gt, Lte, Gte, Jmp, Jnz, Call, Ret, Load, Store, Push, Pop, Assert, Poseidon, Log, SRead, SWrite, Syscall, VerifyMerkle}
use Rattle.isa.specs.declared.Height.{Height}
use Rattle.isa.specs.declared.Height.TheVariants as height
use Rattle.isa.specs.declared.Height.TheVariants.{Same, Up, Down}
use Rattle.isa.specs.declared.Fact.{Fact}
use Rattle.isa.specs.declared.Instruction.{Instruction}
use Rattle.isa.specs.Word.{opcodes, opcode_of, read_as_lem, alone, patch_as}

-- 02: P7: what is known of an opcode: rd, rs1, rs2, imm, height
abbrev pub row : (rd rs1 rs2 imm : Bool) → Height → Fact
row d s t i h = record { known = true; rd = d; rs1 = s; rs2 = t; imm = i; height = h }

-- 000: emit: which of rd, rs1, rs2 and imm are set in some word of the opcode (bounds: no program sets more, `program_unset`, and each is set in
-- one, `Each-set`); 01: Heights: what the word does to the height, Call and Ret apart (heights: by Machine's `kind`, `row_kind`)
abbrev pub row_of : Opcode → Fact
row_of Halt = row false false false false Same
row_of Add = row true true true false Same
row_of Sub = row true true true false Same
row_of Mul = row true true true false Same
row_of Div = row true true true false Same
row_of Inv = row false false false false Same
row_of And = row false false false false Same
row_of Or = row false false false false Same
row_of Xor = row false false false false Same
row_of Not = row false false false false Same
row_of Eq = row true true true false Same
row_of Neq = row true true true false Same
row_of Lt = row true true true false Same
row_of Gt = row true true true false Same
row_of Lte = row true true true false Same
row_of Gte = row true true true false Same
row_of Jmp = row false false false true Same
row_of Jnz = row false true false true Same
row_of Call = row false false false true height.Call
row_of Ret = row false false false false height.Ret
row_of Load = row true true false true Same
row_of Store = row false true true true Same
row_of Push = row false true false false Up
row_of Pop = row true false false false Down
row_of Assert = row false true false false Same
row_of Poseidon = row true true true false Same
row_of Log = row false true false false Same
row_of SRead = row true false true true Same
row_of SWrite = row false true true true Same
row_of Syscall = row true false false true Same
row_of VerifyMerkle = row true true true true Same

-- 02: P7: what is known of a byte; of what is no opcode, nothing
unfoldable pub fact_of : Option Opcode → Fact
fact_of (Some o) = row_of o
fact_of None = record { known = false; rd = false; rs1 = false; rs2 = false; imm = false; height = Same }

-- 02: P7: bits 5 to 7 of an entry: the change of the height
unfoldable pub height_in : ℕ → Height
height_in n = slice_index_or (Same ∷ Up ∷ Down ∷ height.Call ∷ []) n height.Ret

-- 02: P7: what an entry says
unfoldable pub fact_in : ℕ → Fact
fact_in e =
    record { known = (e / 16 % 2 == 1); rd = (e / 1 % 2 == 1); rs1 = (e / 2 % 2 == 1); rs2 = (e / 4 % 2 == 1); imm = (e / 8 % 2 == 1); height = height_in (e / 32) }

-- 02: P7: the rule of a table: each of the 256 entries says what is known of its byte
pub record Ruled (t : List ℕ) : Type 0 where
  pub says : (n : ℕ) → n < 256 → fact_in (slice_index t n) ≡ fact_of (opcode_of n)

-- 003: decode_any, the match, where a table tells which bytes are opcodes
unfoldable pub opcode_by : List ℕ → ℕ → Option Opcode
opcode_by t n = cond (fact_in (slice_index t n)).known (Some (slice_index_or opcodes n VerifyMerkle)) None

-- 02: P3: a word read by it
unfoldable pub decode_by : List ℕ → ℕ → Option (Instruction × ℕ)
decode_by t w = read_as_lem w (opcode_by t (w % 2 ^ 8))

-- 003: decode_any, likewise
unfoldable pub decode_any_by : List ℕ → ℕ → Option Instruction
decode_any_by t w = alone (decode_by t w)

-- 000: patch_jump, likewise
unfoldable pub patch_by : List ℕ → ℕ → ℕ → Option ℕ
patch_by t w k = patch_as k (decode_by t w)
