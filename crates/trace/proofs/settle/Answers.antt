-- `settle` meets its contract.
use mathlib.Core.Path.{refl}
use borrow.Author.Rules.{rules}
use Rattle.trace.specs.Moves.{owns, value}
use Rattle.trace.proofs.settle.Goals as goal

pub returns-then-eq : goal.returns-then-eq
returns-then-eq c = λ n. value (search rules) c.find_expr.ensures

pub returns : goal.returns
returns c = λ n. owns (search rules) n refl
