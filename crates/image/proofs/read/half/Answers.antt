-- `image::read::half`: the bytes are there.
use Rattle.rules.specs.Bytes.{le16}
use borrow.Author.Rules.{rules}
use Rattle.image.proofs.read.half.Goals as goal

pub returns : goal.returns
unfolding le16
returns c = search rules
