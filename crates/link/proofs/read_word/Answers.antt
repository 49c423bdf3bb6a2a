-- `link::read_word` meets its contract.
use borrow.Author.Rules.{rules}
use Rattle.rules.specs.Bytes.{le64}
use Rattle.link.proofs.read_word.Goals as goal

pub returns : goal.returns
unfolding le64
returns c = search rules
