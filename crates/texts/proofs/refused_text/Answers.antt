-- `texts::refused_text` meets its contract: analysis alone has a text.
use Rattle.std.specs.Prelude.{Err}
use Rattle.std.proofs.Common.{ap}
use Rattle.rules.specs.Build.{analysis_answer}
use Rattle.sema.specs.Front.{judged_of}
use Rattle.texts.specs.Laws.{tells_image, tells_ambiguous, tells_fault, fault_room}
use Rattle.texts.proofs.refused_text.Goals as goal

pub fault-requires : goal.fault-requires
fault-requires c = fault_room c.args.image.now (ap Err c.in-Analysis.is) c.requires

pub returns-in-Analysis : goal.returns-in-Analysis
unfolding judged_of analysis_answer
returns-in-Analysis c = tells_fault c.args.image.now (ap Err c.in-Analysis.is) (c.answer-a.ensures c.args.image.now) c.told.ensures c.fault.ensures

pub returns-in-Image : goal.returns-in-Image
unfolding judged_of analysis_answer
returns-in-Image c = tells_image c.args.image.now (ap Err c.in-Image.is) (c.answer-a.ensures c.args.image.now)

pub returns-in-Ambiguous : goal.returns-in-Ambiguous
unfolding judged_of analysis_answer
returns-in-Ambiguous c = tells_ambiguous c.args.image.now (ap Err c.in-Ambiguous.is) (c.answer-a.ensures c.args.image.now)
