-- in_simple meets its contract.
use native.Mathlib.Omega.{arith}
use Rattle.ambiguous.proofs.Trees.{kind_rest}
use Rattle.rules.specs.Ambiguous.{in_stmt_lem}
use Rattle.rules.specs.Bytes.{pick}
use Rattle.rules.specs.Read.{stmt_as, stmt_kind_of}
use Rattle.ambiguous.proofs.in_simple.Goals as goal

pub returns-in-32 : goal.returns-in-32
unfolding in_stmt_lem stmt_as stmt_kind_of pick
returns-in-32 c = rw c.in-32.is (rw (c.past-next.ensures.0, c.body-first.ensures.0) at c.in_expr.ensures)

pub returns-in-33 : goal.returns-in-33
unfolding in_stmt_lem stmt_as stmt_kind_of pick
returns-in-33 c = rw c.in-33.is (rw c.body-first.ensures.0 at c.in_expr-in-33.ensures)

pub returns-in-34 : goal.returns-in-34
unfolding in_stmt_lem stmt_as stmt_kind_of pick
returns-in-34 c = rw c.in-34.is (rw (c.past-next.ensures.0, c.body-first.ensures.0) at c.in_expr-in-34.ensures)

pub returns-in-35 : goal.returns-in-35
unfolding in_stmt_lem stmt_as stmt_kind_of pick
returns-in-35 c = rw c.in-35.is (rw (c.past-next.ensures.0, c.body-first.ensures.0) at c.in_expr-in-35.ensures)

pub returns-in-36 : goal.returns-in-36
unfolding in_stmt_lem stmt_as stmt_kind_of pick
returns-in-36 c = rw c.in-36.is (rw (c.past.ensures.0, c.past-next.ensures.0, c.body-first.ensures.0) at c.in_two.ensures)

pub returns-in-40 : goal.returns-in-40
unfolding stmt_kind_of pick
returns-in-40 c = rw c.in-40.is c.in_return.ensures

pub returns-in-41 : goal.returns-in-41
unfolding in_stmt_lem stmt_as stmt_kind_of pick
returns-in-41 c = rw c.in-41.is (rw (c.past-next.ensures.0, c.body-first.ensures.0) at c.in_args.ensures)

pub returns-in-42 : goal.returns-in-42
unfolding in_stmt_lem stmt_as stmt_kind_of pick
returns-in-42 c = rw c.in-42.is (rw c.body-first.ensures.0 at c.in_expr-in-42.ensures)

pub returns-in_default : goal.returns-in_default
unfolding in_stmt_lem stmt_as
returns-in_default c = rw (kind_rest c.args.k (omega arith) (omega arith) (omega arith) (omega arith) (omega arith) c.requires.0 c.requires.1.0 c.requires.1.1 (omega arith) (omega arith) (omega arith))
