-- `image::check`: each return by what the Contract's header and its parts gave; the table is the grammar's (`right_is`).
use mathlib.Core.Path.{◌∙◌, refl, sym}
use Prim.Native.Nat.{◌+◌}
use native.Mathlib.Omega.{arith}
use lib.ListN.{length}
use Rattle.rules.specs.Bytes.{pick}
use Rattle.rules.specs.Check.{undue}
use Rattle.rules.specs.Grammar.{classes, class_of, records, statements, expressions, parts_of}
use Rattle.image.specs.Leaves.{leaf}
use Rattle.image.specs.Rows.{packed, listed, dues_of, off, inner}
use Rattle.image.proofs.Header.{framed}
use Rattle.image.proofs.Table.{right_is}
use Rattle.image.proofs.Loop.{told_number, told_count}
use Rattle.image.proofs.Whole.{check_long, check_unframed, check_other, check_fault, check_left, check_sound}
use Rattle.image.proofs.check.Goals as goal

pub returns-then-image-gt65536 : goal.returns-then-image-gt65536
returns-then-image-gt65536 c = check_long c.args.image.now c.if-image-gt65536.true

pub returns-then-no_frame : goal.returns-then-no_frame
returns-then-no_frame c = check_unframed c.args.image.now c.if-image-gt65536.false (sym c.no_frame.ensures ∙ c.if-no_frame.true)

pub half-requires : goal.half-requires
half-requires c = let h = framed c.args.image.now 0 (length c.args.image.now) (sym c.no_frame.ensures ∙ c.if-no_frame.false) in omega arith

pub returns-then-half-ne16 : goal.returns-then-half-ne16
returns-then-half-ne16 c = check_other c.args.image.now c.if-image-gt65536.false (sym c.no_frame.ensures ∙ c.if-no_frame.false) (λ e. c.if-half-ne16.true (c.half.ensures.0 ∙ e))

pub word-next-requires : goal.word-next-requires
word-next-requires c = let h = framed c.args.image.now 0 (length c.args.image.now) (sym c.no_frame.ensures ∙ c.if-no_frame.false) in omega arith

pub check_record-r-requires : goal.check_record-r-requires
unfolding pick undue classes class_of records statements expressions parts_of leaf packed listed dues_of off inner
check_record-r-requires c = let h = framed c.args.image.now 0 (length c.args.image.now) (sym c.no_frame.ensures ∙ c.if-no_frame.false) in (omega arith, omega arith, omega arith, omega arith, right_is _ tt)

pub returns-then-r-ge-MANY : goal.returns-then-r-ge-MANY
unfolding pick packed dues_of parts_of records
returns-then-r-ge-MANY c = let h = framed c.args.image.now 0 (length c.args.image.now) (sym c.no_frame.ensures ∙ c.if-no_frame.false) in check_fault c.args.image.now c.if-image-gt65536.false (sym c.no_frame.ensures ∙ c.if-no_frame.false) (sym c.half.ensures.0 ∙ c.if-half-ne16.false) _ _ (rw (← c.word-next.ensures.0) (told_number (4 + c.word-next.result) c.check_record-r.result _ (c.check_record-r.ensures 1 16 refl) (omega arith) c.if-r-ge-MANY.true))

pub returns-then-next-image : goal.returns-then-next-image
unfolding pick packed dues_of parts_of records
returns-then-next-image c = let x = told_count (4 + c.word-next.result) c.check_record-r.result _ (c.check_record-r.ensures 1 16 refl) c.if-r-ge-MANY.false in rw c.word-next.ensures.0 (check_left c.args.image.now c.if-image-gt65536.false (sym c.no_frame.ensures ∙ c.if-no_frame.false) (sym c.half.ensures.0 ∙ c.if-half-ne16.false) (4 + c.word-next.result) c.check_record-r.result (rw (← c.word-next.ensures.0) x.0) (rw c.word-next.ensures.0 refl) (rw (← c.word-next.ensures.0) c.if-next-image.true))

pub returns-else-next-image : goal.returns-else-next-image
unfolding pick packed dues_of parts_of records
returns-else-next-image c = let x = told_count (4 + c.word-next.result) c.check_record-r.result _ (c.check_record-r.ensures 1 16 refl) c.if-r-ge-MANY.false in rw c.word-next.ensures.0 (check_sound c.args.image.now c.if-image-gt65536.false (sym c.no_frame.ensures ∙ c.if-no_frame.false) (sym c.half.ensures.0 ∙ c.if-half-ne16.false) (4 + c.word-next.result) c.check_record-r.result (rw (← c.word-next.ensures.0) x.0) (rw c.word-next.ensures.0 refl) (rw (← c.word-next.ensures.0) c.if-next-image.false))
