-- `work` meets its contract: a build for the public target.
use Rattle.entries.proofs.build.work.Goals as goal

pub returns : goal.returns
returns c t e = rw c.target.ensures.0 at (c.make-answer.ensures t e)
