-- key meets its contract.
use borrow.Author.Rules.{rules}
use native.Mathlib.Omega.{arith}
use mathlib.Core.Path.{◌≡◌}
use Prim.Native.Nat.{◌-◌}
use lib.ListN.{length}
use Rattle.records.specs.Keys.{key_of}
use Rattle.records.proofs.key.Goals as goal

pub returns-then-n-lt4 : goal.returns-then-n-lt4
unfolding key_of
returns-then-n-lt4 c = let z : length c.args.x.now - 4 ≡ 0 = omega arith in rw (z, c.few-all.ensures.0)

pub returns : goal.returns
unfolding key_of
returns c = search rules
