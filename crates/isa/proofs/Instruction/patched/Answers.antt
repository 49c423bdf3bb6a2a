-- `isa::Instruction::patched` meets its contract: what `decode` answers picks the case of `patch_as`.
use Rattle.std.proofs.Common.{ap, ◌∙◌}
use Rattle.isa.specs.Word.{patch_as}
use Rattle.isa.specs.Facts.{patch_by}
use Rattle.isa.proofs.Instruction.patched.Goals as goal

pub returns-in_err-fields : goal.returns-in_err-fields
unfolding patch_by
returns-in_err-fields c = c.from_residual.ensures ∙ ap (patch_as c.args.offset) c.in_err-fields.ensures

pub returns : goal.returns
unfolding patch_by
returns c = c.encode.ensures ∙ ap (patch_as c.args.offset) c.in_ok-fields.ensures
