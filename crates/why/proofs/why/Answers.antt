-- `why::why` meets its contract.
use Rattle.std.proofs.Common.{ap, refl, sym, ◌∙◌}
use Rattle.rules.specs.Build.{analysis_answer}
use Rattle.notes.specs.Wrote.{blank}
use Rattle.sema.specs.Front.{judged_of, refused_of}
use Rattle.compiler.proofs.Making.{no_refusal}
use Rattle.why.specs.Answers.{whole_refused, whole_generated}
use Rattle.why.proofs.why.Goals as goal

pub judge-requires : goal.judge-requires
judge-requires c = blank

pub returns-in-Err : goal.returns-in-Err
unfolding judged_of analysis_answer
returns-in-Err c =
    let told = c.answer.ensures c.args.image.now in
    let front = c.in-Err.ensures.answers in
    whole_refused c.args.image.now c.args.index (told ∙ ap analysis_answer front) (no_refusal c.args.image.now (refused_of c.args.image.now c.in-Err.judged) front told) c.refused.ensures

pub generated-requires : goal.generated-requires
generated-requires c = c.in_default.ensures.ready refl

pub returns : goal.returns
unfolding judged_of analysis_answer
returns c =
    let front = c.in_default.ensures.answers in
    whole_generated c.args.image.now c.args.index refl (ap (λ m. (analysis_answer m).refusal) (sym front)) c.generated.ensures
