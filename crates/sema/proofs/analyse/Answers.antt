-- `analyse` meets its contract.
use Rattle.notes.specs.Wrote.{blank}
use mathlib.Core.Path.{◌∙◌, ap}
use Rattle.rules.specs.Build.{analysis_answer, analyse_of}
use Rattle.sema.proofs.analyse.Goals as goal

pub analysis-requires : goal.analysis-requires
analysis-requires c = blank

pub returns : goal.returns
unfolding analyse_of
returns c = c.answer_of.ensures _ ∙ ap analysis_answer c.analysis.ensures.answers
