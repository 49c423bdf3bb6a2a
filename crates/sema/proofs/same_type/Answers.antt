-- same_type meets its contract.
use Rattle.lookup.specs.Answers.{checked_of}
use Rattle.lookup.specs.Results.{unless_bad, unless_ok}
use Rattle.sema.proofs.same_type.Goals as goal

pub returns-then-clashing : goal.returns-then-clashing
unfolding checked_of
returns-then-clashing c = unless_bad _ _ c.clashing.ensures c.if-clashing.true

pub returns : goal.returns
unfolding checked_of
returns c = unless_ok _ _ c.clashing.ensures c.if-clashing.false
