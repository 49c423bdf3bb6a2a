-- store_at stores a mapping's value.
use mathlib.Core.Path.{refl, sym}
use mathlib.Core.Bool.{false}
use Prim.Native.Nat.{◌%◌}
use Rattle.isa.specs.declared.Opcode.TheVariants as op
use Rattle.rules.specs.Machine.{Imm}
use Rattle.emit.specs.Ran.{raw}
use Rattle.emit.specs.Refines.{seq, still, renewed, says}
use Rattle.emit.specs.Leaves.{raw_word}
use Rattle.stmt.specs.Runs.{store_at}
use Rattle.stmt.proofs.Laws.{takes}
use Rattle.stmt.proofs.store_at.Goals as goal

pub returns : goal.returns
unfolding store_at
returns c = record {
  ran = λ C h. renewed (raw C) _ _ _ (c.emit_new-b.ensures.ran C)
      (seq (raw C) _ (takes _ c.alloc_reg-t.ensures c.emit_new-b.ensures.next C _)
      (seq (raw C) _ (says (raw C) _ _ (c.emit-h.ensures.ran C _ false) (c.emit.ensures.any C _ (raw_word C c.args.at false (record { op = op.SWrite; rd = 0; rs1 = c.args.value % 256; rs2 = c.alloc_reg-t.result.reg % 256; imm = Imm.neg 1 }) _ (sym c.backward.ensures)))) (still (raw C) refl refl)));
}
