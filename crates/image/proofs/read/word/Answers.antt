-- `image::read::word`: the bytes are there.
use Prim.Native.Nat.{◌+◌}
use mathlib.Core.Path.{◌≡◌}
use native.Mathlib.Omega.{arith}
use Rattle.rules.specs.Bytes.{le16, le32}
use borrow.Author.Rules.{rules}
use Rattle.image.proofs.read.word.Goals as goal

pub returns : goal.returns
unfolding le32 le16
returns c = let e : c.args.at + 2 + 1 ≡ c.args.at + 3 = omega arith in rw e (search rules)
