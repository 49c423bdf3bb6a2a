-- Which fields of a word our generator sets (02: P7): the others are zero in every word.
-- Assumes nothing.
use Rattle.std.specs.Prelude.{◌≡◌, Bool, true, false, List, ℕ, ◌/◌, ◌%◌, ◌^◌, get_or}
use Rattle.isa.specs.declared.Fact.{Fact}
use Rattle.isa.specs.Facts.{row_of, fact_in, Ruled}
use Rattle.rules.specs.Machine.{Imm, Word}

-- 003: the fields beside the opcode
pub data Operand : Type 0 where
  rd rs1 rs2 imm : Operand

-- 003: encode: the bits of each
abbrev pub bits_in : Operand → ℕ → ℕ
bits_in rd n = n / 2 ^ 8 % 2 ^ 5
bits_in rs1 n = n / 2 ^ 13 % 2 ^ 5
bits_in rs2 n = n / 2 ^ 18 % 2 ^ 5
bits_in imm n = n / 2 ^ 23 % 2 ^ 32

-- 02: P7: whether our generator may set it
abbrev pub may : Operand → Fact → Bool
may rd f = f.rd
may rs1 f = f.rs1
may rs2 f = f.rs2
may imm f = f.imm

-- Zero, if it may not be set.
abbrev pub Only : Bool → ℕ → Type 0
Only true n = Unit {0}
Only false n = n ≡ 0

-- How far an imm is from zero.
abbrev pub size : Imm → ℕ
size (Imm.pos n) = n
size (Imm.neg n) = n

-- A word with nothing in the fields that may not be set.
abbrev pub Within : Word → Type 0
Within w = Only (row_of w.op).rd w.rd × (Only (row_of w.op).rs1 w.rs1 × (Only (row_of w.op).rs2 w.rs2 × Only (row_of w.op).imm (size w.imm)))

-- Its number, as a ruled table says of its low byte.
module _ (t : List ℕ) (ruled : Ruled t) where
  abbrev pub Unset : ℕ → Type 0
  Unset n = (k : Operand) → may k (fact_in (get_or t (n % 2 ^ 8) 0)) ≡ false → bits_in k n ≡ 0
