-- Which fields of a word our generator sets (02: P7): the others are zero in every word.
-- Assumes nothing.
use Rattle.std.specs.Prelude.{◌≡◌, refl, Bool, true, false, List, [], ◌∷◌, map, ℕ, zero, suc, ◌%◌, ◌^◌, get_or}
use Rattle.std.proofs.Common.{sym, ap, subst, ◌∙◌, arith}
use Rattle.isa.specs.Facts.{row_of, fact_in, Ruled}
use Rattle.isa.specs.Laws.{Decodes, decodes, decode_encode}
use Rattle.isa.specs.Ruled.{row_at}
use Rattle.rules.specs.Tree.{BinOp}
use Rattle.rules.specs.Machine.{Imm, Word, At, bits_of, instruction_of, number_of}
use Rattle.rules.specs.Emit.{opcode}
use Rattle.bounds.specs.Numbers.{In32, Encodable, bits_below, encoded}
use Rattle.bounds.specs.Fields.{Only, Operand, Unset, Within, bits_in, may, rd, rs1, rs2, imm, size}

only : (b : Bool) (n : ℕ) → Only b n → b ≡ false → n ≡ 0
only true n h e = absurd (let z : ◌≡◌ {A = ℕ} 0 1 = cc in omega arith)
only false n h e = h

bits_zero : (d : Imm) → In32 d → size d ≡ 0 → bits_of d ≡ 0
unfolding bits_of
bits_zero (Imm.pos n) h e = e
bits_zero (Imm.neg n) h e = absurd (omega arith)

-- 000: generate_expr, Binary: registers alone, whatever the operator.
pub binary_within : (o : BinOp) (d l r : ℕ) → Within (record { op = opcode o; rd = d; rs1 = l; rs2 = r; imm = Imm.pos 0 })
binary_within BinOp.add d l r = (tt, (tt, (tt, refl)))
binary_within BinOp.sub d l r = (tt, (tt, (tt, refl)))
binary_within BinOp.mul d l r = (tt, (tt, (tt, refl)))
binary_within BinOp.div d l r = (tt, (tt, (tt, refl)))
binary_within BinOp.eq d l r = (tt, (tt, (tt, refl)))
binary_within BinOp.neq d l r = (tt, (tt, (tt, refl)))
binary_within BinOp.lt d l r = (tt, (tt, (tt, refl)))
binary_within BinOp.gt d l r = (tt, (tt, (tt, refl)))
binary_within BinOp.lte d l r = (tt, (tt, (tt, refl)))
binary_within BinOp.gte d l r = (tt, (tt, (tt, refl)))

-- Its number, as a ruled table says of its low byte.
module _ (t : List ℕ) (ruled : Ruled t) where
  number_unset : (w : Word) → Encodable w → Within w → Unset t ruled (number_of w)
  unfolding instruction_of
  number_unset w h g k e = by k (sym (ap (may k) said) ∙ e)
    where
      d : Decodes (number_of w) (instruction_of w) 0
      d = decodes (number_of w) (instruction_of w) 0 (decode_encode (instruction_of w) 0 (number_of w) (bits_below w.imm h.imm) (encoded w h))

      said : fact_in (get_or t (number_of w % 2 ^ 8) 0) ≡ row_of w.op
      said = ap (λ (n : ℕ). fact_in (get_or t n 0)) (sym d.opcode) ∙ row_at t ruled w.op

      by : (k : Operand) → may k (row_of w.op) ≡ false → bits_in k (number_of w) ≡ 0
      by rd f = sym d.rd ∙ only _ w.rd g.0 f
      by rs1 f = sym d.rs1 ∙ only _ w.rs1 g.1.0 f
      by rs2 f = sym d.rs2 ∙ only _ w.rs2 g.1.1.0 f
      by imm f = sym d.imm ∙ bits_zero w.imm h.imm (only _ (size w.imm) g.1.1.1 f)

  -- So the numbers of a list.
  pub all_unset : (l : List Word) → ((i : ℕ) (w : Word) → At l i w → Encodable w × Within w) → (i n : ℕ) → At (map number_of l) i n → Unset t ruled n
  all_unset [] h i n a = absurd a
  all_unset (w ∷ l) h zero n a = subst (Unset t ruled) a (number_unset w (h 0 w refl).0 (h 0 w refl).1)
  all_unset (w ∷ l) h (suc i) n a = all_unset l (λ j v b. h (suc j) v b) i n a
