-- `image::no_frame`: each return by its tests; the length read is the definition's.
use Prim.Native.Nat.{◌-◌}
use native.Mathlib.Omega.{arith}
use borrow.Author.Tests.{lt-ltb, le-ltb}
use Rattle.rules.specs.Check.{unframed}
use Rattle.rules.specs.Bytes.{le32}
use Rattle.image.proofs.no_frame.Goals as goal

pub returns-then-end-at-lt6 : goal.returns-then-end-at-lt6
unfolding unframed
returns-then-end-at-lt6 c = let a = c.args in rw (lt-ltb (a.end - a.at) 6 (omega arith))

pub returns-then-len-lt2 : goal.returns-then-len-lt2
unfolding unframed
returns-then-len-lt2 c = let a = c.args in rw (le-ltb (a.end - a.at) 6 (omega arith), lt-ltb (le32 a.s.now a.at) 2 (omega arith))

pub returns : goal.returns
unfolding unframed
returns c = let a = c.args in rw (le-ltb (a.end - a.at) 6 (omega arith), le-ltb (le32 a.s.now a.at) 2 (omega arith), ← c.word-len.ensures.0)
