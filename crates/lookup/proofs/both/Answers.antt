-- both meets its contract.
use Rattle.lookup.specs.Answers.{fault_of, typed_of}
use Rattle.lookup.specs.Results.{unless_bad, unless_ok}
use Rattle.lookup.proofs.both.Goals as goal

pub returns-then-clashing : goal.returns-then-clashing
unfolding typed_of fault_of
returns-then-clashing c = unless_bad _ _ c.clashing.ensures c.if-clashing.true

pub returns-else-clashing : goal.returns-else-clashing
unfolding typed_of
returns-else-clashing c = unless_ok _ _ c.clashing.ensures c.if-clashing.false
