-- `isa::Instruction::decode_any` meets its contract: what `decode` answers picks the case of `alone`.
use Rattle.std.proofs.Common.{ap, ◌∙◌}
use Rattle.isa.specs.Word.{alone}
use Rattle.isa.specs.Facts.{decode_any_by}
use Rattle.isa.proofs.Instruction.decode_any.Goals as goal

pub returns-in_err-fields : goal.returns-in_err-fields
unfolding decode_any_by
returns-in_err-fields c = c.from_residual.ensures ∙ ap alone c.in_err-fields.ensures

pub returns : goal.returns
unfolding decode_any_by
returns c = ap alone c.in_ok-fields.ensures
