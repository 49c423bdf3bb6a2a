-- `replay::entered_roomed`: the part that it lends is there.
use mathlib.Core.Path.{◌≡◌, sym}
use Prim.Native.Nat.{ℕ, ◌≤◌}
use lib.ListN.{length, take, replicate, length-replicate}
use lib.Seq.{length-take-le}
use Rattle.replay.proofs.entered_roomed.Goals as goal

as_long : (k w : ℕ) → k ≤ 8192 → k ≡ length (take k (replicate 8192 w))
as_long k w h = sym (length-take-le k (replicate 8192 w) (rw (length-replicate 8192 w) h))

pub slice_bounds-entered-end : goal.slice_bounds-entered-end
slice_bounds-entered-end c = as_long c.least-words.result _ c.least-words.ensures
