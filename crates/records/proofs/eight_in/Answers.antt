-- eight_in meets its contract.
use Rattle.rules.specs.Bytes.{le64}
use borrow.Author.Rules.{rules}
use Rattle.records.proofs.eight_in.Goals as goal

pub returns : goal.returns
unfolding le64
returns c = search rules
