-- `lines::lines` meets its contract: the lines of the first k words lie from the start on.
use Rattle.std.proofs.Common.{◌-◌, ◌≤◌}
use Rattle.rules.specs.Lines.{lines_of}
use Rattle.pieces.specs.Lays.{Lays}
use Rattle.lines.proofs.lines.Given as goal

abbrev pub invariant-loop-k : goal.invariant-loop-k
invariant-loop-k l = (l.k ≤ l.whole) × ((l.k ≤ l.room) × Lays 0 (lines_of l.first l.words l.k) l.initial.out l.out l.n)

abbrev pub decreases-loop-k : goal.decreases-loop-k
decreases-loop-k l = l.whole - l.k
