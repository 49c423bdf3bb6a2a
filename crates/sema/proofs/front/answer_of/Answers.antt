-- `front::answer_of` meets its contract.
use Rattle.rules.specs.Build.{analysis_answer}
use Rattle.sema.specs.Front.{judged_of}
use Rattle.sema.proofs.front.answer_of.Goals as goal

pub returns-in-Ok : goal.returns-in-Ok
unfolding judged_of analysis_answer
returns-in-Ok c = λ img. rw c.in-Ok.is c.of.ensures

pub returns-in-Err : goal.returns-in-Err
unfolding judged_of analysis_answer
returns-in-Err c = λ img. rw c.in-Err.is (c.answer.ensures img)
