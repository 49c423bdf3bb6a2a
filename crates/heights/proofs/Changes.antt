-- What the table of low bytes says of the height (02: P7) is what a path does.
-- Assumes nothing.
use Rattle.std.specs.Prelude.{◌≡◌, refl, List, ℕ, ◌%◌, ◌^◌, eqb, get_or, None, Option, Some}
use Rattle.std.proofs.Common.{sym, ap, subst, ◌∙◌, arith, eqb→eq}
use Rattle.isa.specs.declared.Opcode.{Opcode}
use Rattle.isa.specs.declared.Instruction.{Instruction}
use Rattle.isa.specs.declared.Height.{Height}
use Rattle.isa.specs.declared.Fact.{Fact}
use Rattle.isa.specs.Word.{decode_any_of}
use Rattle.isa.specs.Facts.{row_of, height_in, fact_in, Ruled}
use Rattle.isa.specs.Laws.{each_opcode}
use Rattle.isa.specs.Ruled.{change, change_is, row_read}
use Rattle.rules.specs.Machine.{Kind, Imm, Entry, kind, word_in, read, Way, Moves}
use Rattle.heights.specs.Changes.{Changes, change_of}

-- 02: P7: each opcode's row has the height of its kind: one test, computed over all of them.
pub row_kind : (o : Opcode) → (row_of o).height ≡ change_of (kind o)
unfolding change
row_kind o =
    sym (change_is (row_of o).height)
    ∙ ap height_in (eqb→eq _ _ (each_opcode (λ (p : Opcode). eqb (change (row_of p).height) (change (change_of (kind p)))) tt o))
    ∙ change_is (change_of (kind o))

module _ (T : List Entry) (i : ℕ) (d : Imm) where
  kind_changes : (y : Way) (k : Kind) (t g j : ℕ) → Moves T i d y k t g j → Changes (change_of k) t g
  kind_changes y Kind.plain t g j m = omega (arith, m.0, m.1)
  kind_changes y Kind.pushes t g j m = omega (arith, m.0, m.1)
  kind_changes y Kind.pops t g j m = omega (arith, m.0, m.1)
  kind_changes y Kind.jumps t g j m = omega (arith, m.0, m.1)
  kind_changes Way.jump Kind.forks t g j m = omega (arith, m.0, m.1)
  kind_changes Way.pass Kind.forks t g j m = omega (arith, m.0, m.1)
  kind_changes y Kind.calls t g j m = m.3
  kind_changes y Kind.ends t g j m = absurd m
  kind_changes y Kind.stuck t g j m = absurd m

-- 02: P7: every step of a path changes the height as a ruled table says of the word's low byte.
pub step_changes : (f : List ℕ) → Ruled f → (T : List Entry) (i n : ℕ) (y : Way) (t g j : ℕ) → Moves T i (read n).imm y (kind (read n).op) t g j
    → Changes (fact_in (get_or f (n % 2 ^ 8) 0)).height t g
unfolding read word_in
step_changes f ruled T i n y t g j m = by (decode_any_of n) refl
  where
    by : (r : Option Instruction) → decode_any_of n ≡ r → Changes (fact_in (get_or f (n % 2 ^ 8) 0)).height t g
    by None e = absurd (subst (λ (x : Option Instruction). Moves T i (word_in x).imm y (kind (word_in x).op) t g j) e m)
    by (Some v) e =
        let s = subst (λ (x : Option Instruction). Moves T i (word_in x).imm y (kind (word_in x).op) t g j) e m in
        let h : (fact_in (get_or f (n % 2 ^ 8) 0)).height ≡ change_of (kind v.opcode) = ap (λ (a : Fact). a.height) (row_read f ruled n v e) ∙ row_kind v.opcode in
        subst (λ (c : Height). Changes c t g) (sym h) (kind_changes T i _ y (kind v.opcode) t g j s)
