-- `link::some_open_in` meets its contract: so far no word that was looked at is open, or `any` tells of one.
use mathlib.Core.Path.{◌≡◌}
use mathlib.Core.Bool.{false}
use Rattle.link.specs.Closed.{ShutIn, Each}
use Rattle.link.proofs.some_open_in.Given as goal

abbrev pub invariant-loop-j : goal.invariant-loop-j
invariant-loop-j l = l.any ≡ false → Each (ShutIn l.out) l.i l.j
