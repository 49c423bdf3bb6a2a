-- `compiler::table::fill` meets its contract: after k turns the rows of the first k functions are laid over the table.
use mathlib.Core.Path.{◌≡◌}
use Rattle.rules.specs.Lent.{over, spread}
use Rattle.compiler.specs.Made.{three, below}
use Rattle.compiler.proofs.table.fill.Given as goal

abbrev pub invariant-loop-k : goal.invariant-loop-k
invariant-loop-k l = l.table ≡ over (spread (three l.contract.img.now l.firsts) (below l.k)) l.initial.table
