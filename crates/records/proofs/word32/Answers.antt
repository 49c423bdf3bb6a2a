-- word32 meets its contract.
use mathlib.Core.Path.{◌∙◌}
use Rattle.records.proofs.Outside.{word_near}
use Rattle.records.proofs.word32.Goals as goal

pub returns-then-n-j-lt4 : goal.returns-then-n-j-lt4
returns-then-n-j-lt4 c = (c.few.ensures.0 ∙ word_near c.args.img.now c.args.i _ c.min-j.ensures, c.few.ensures.1)

pub returns : goal.returns
returns c = (c.word_in.ensures.0 ∙ word_near c.args.img.now c.args.i _ c.min-j.ensures, c.word_in.ensures.1)
