-- all_agree meets its contract.
use Rattle.ambiguous.proofs.Agreed.{one_struct, agreed}
use Rattle.records.specs.Names.{never}
use native.Mathlib.Omega.{arith}
use Rattle.ambiguous.proofs.agree.all_agree.Goals as goal

pub loop-i-init : goal.loop-i-init
loop-i-init c = λ j h. absurd (omega arith)

pub loop-i-preserved : goal.loop-i-preserved
loop-i-preserved c = one_struct c.args.contract.now.img.now c.loop-i.i c.loop-i.invariant (c.note_fields.ensures c.if-not-note_fields.false).0 (rw (c.second-fields.ensures, c.struct_place.ensures (rw c.struct_count-i-end.ensures at c.loop-i-test.true)) at (c.note_fields.ensures c.if-not-note_fields.false).1)

pub returns-then-not-note_fields : goal.returns-then-not-note_fields
returns-then-not-note_fields c = λ e. never e

pub returns : goal.returns
returns c = λ _. agreed c.args.contract.now.img.now _ (λ j h. c.loop-i.invariant j (omega (arith, h, c.loop-i-test.false, c.struct_count-i-end.ensures)))
