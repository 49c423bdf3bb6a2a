-- `front::Refused::answer` meets its contract.
use Rattle.sema.proofs.Fronts.{image_told, analysis_told, ambiguous_told}
use Rattle.sema.proofs.front.Refused.answer.Goals as goal

pub returns-in-Image : goal.returns-in-Image
returns-in-Image c = λ img. image_told img c.in-Image.is c.of.ensures

pub returns-in-Analysis : goal.returns-in-Analysis
returns-in-Analysis c = λ img. analysis_told img c.in-Analysis.is (c.refusal.ensures img)

pub returns-in-Ambiguous : goal.returns-in-Ambiguous
returns-in-Ambiguous c = λ img. ambiguous_told img c.in-Ambiguous.is c.of-in-Ambiguous.ensures
