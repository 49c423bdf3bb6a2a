-- `image::read::each_name`: the bytes from `p` on decide as all of them did at the start.
use mathlib.Core.Path.{◌≡◌}
use Prim.Native.Nat.{◌-◌}
use Rattle.rules.specs.Bytes.{name_from}
use Rattle.image.proofs.read.each_name.Given as goal

abbrev pub invariant-loop-p : goal.invariant-loop-p
invariant-loop-p l = name_from l.s l.from (l.to - l.from) ≡ name_from l.s l.p (l.to - l.p)
