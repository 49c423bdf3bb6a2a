-- `entries::fill`: after k turns the table is the entries of the first k functions over what was lent.
use Rattle.std.proofs.Common.{◌≡◌}
use Rattle.rules.specs.Lent.{over}
use Rattle.entries.specs.Rows.{entries_of}
use Rattle.entries.proofs.fill.Given as goal

abbrev pub invariant-loop-k : goal.invariant-loop-k
invariant-loop-k l = l.table ≡ over (entries_of l.contract.img.now l.firsts l.k) l.fn.table
