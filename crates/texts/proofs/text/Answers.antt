-- `texts::text` meets its contract: the slice's length first, then what the front says, then generation.
use mathlib.Core.Path.{refl}
use native.Mathlib.Omega.{arith}
use Rattle.notes.specs.Wrote.{blank}
use Rattle.texts.specs.Laws.{generate_room, judged_room, told_generated, told_refused, short_answer, whole_answer}
use Rattle.texts.proofs.text.Goals as goal

pub returns-then-out-lt256 : goal.returns-then-out-lt256
returns-then-out-lt256 c = short_answer c.args.image.now c.args.out.now c.if-out-lt256.true c.of.ensures

pub judge-requires : goal.judge-requires
judge-requires c = blank

pub generated_text-requires : goal.generated_text-requires
generated_text-requires c = (generate_room c.args.image.now _ c.in-Ok.ensures.answers _ refl (omega (arith, c.if-out-lt256.false)), c.in-Ok.ensures.ready refl)

pub refused_text-requires : goal.refused_text-requires
refused_text-requires c = judged_room c.args.image.now _ c.in-Err.ensures.answers _ (omega (arith, c.if-out-lt256.false))

pub returns-in-Ok : goal.returns-in-Ok
returns-in-Ok c = whole_answer c.args.image.now c.args.out.now (omega (arith, c.if-out-lt256.false)) (told_generated c.args.image.now _ c.in-Ok.ensures.answers refl c.generated_text.ensures)

pub returns-in-Err : goal.returns-in-Err
returns-in-Err c = whole_answer c.args.image.now c.args.out.now (omega (arith, c.if-out-lt256.false)) (told_refused c.args.image.now _ c.in-Err.ensures.answers refl c.refused_text.ensures)
