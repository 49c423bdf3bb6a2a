-- `link::some_open` meets its contract: so far no word that was looked at is open, or `any` tells of one.
use mathlib.Core.Path.{◌≡◌}
use mathlib.Core.Bool.{false}
use Rattle.link.specs.Closed.{Shut, Each}
use Rattle.link.proofs.some_open.Given as goal

abbrev pub invariant-loop-k : goal.invariant-loop-k
invariant-loop-k l = l.any ≡ false → Each (Shut l.code) l.i l.k
