-- leave meets its contract.
use borrow.Author.Rules.{rules}
use Rattle.notes.specs.Notes.{left}
use Rattle.notes.proofs.leave.Goals as goal

pub returns : goal.returns
unfolding left
returns c = search rules
