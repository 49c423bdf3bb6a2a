-- `isa::Instruction::decode` meets its contract: what `of` answers picks the case of `read_as_lem`.
use Rattle.std.proofs.Common.{ap, ◌∙◌}
use Rattle.isa.specs.Word.{fields_of, read_as_lem}
use Rattle.isa.specs.Facts.{decode_by}
use Rattle.isa.proofs.Instruction.decode.Goals as goal

pub returns-in_err-opcode : goal.returns-in_err-opcode
unfolding decode_by
returns-in_err-opcode c = c.from_residual.ensures ∙ ap (read_as_lem c.args.w) c.in_err-opcode.ensures

pub returns : goal.returns
unfolding decode_by
returns c = rw c.top.ensures (ap (read_as_lem c.args.w) c.in_ok-opcode.ensures)
