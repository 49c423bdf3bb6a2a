-- analyze_simple meets its contract.
use native.Mathlib.Omega.{arith}
use Rattle.rules.specs.Meant.{of_stmt}
use Rattle.bounds.specs.Sizes.{vars}
use Rattle.rules.specs.Analyse.{stmt}
use Rattle.rules.specs.Bytes.{pick}
use Rattle.rules.specs.Read.{stmt_as, stmt_kind_of}
use Rattle.sema.proofs.Runs.{still_ok}
use Rattle.sema.proofs.Trees.{kind_rest}
use Rattle.sema.specs.Steps.{only}
use mathlib.Core.Path.{refl}
use Rattle.sema.proofs.analyze_simple.Goals as goal

pub returns-in-33 : goal.returns-in-33
unfolding stmt of_stmt stmt_as vars stmt_kind_of pick only
returns-in-33 c = rw c.in-33.is (rw c.body.ensures.0 at c.run_expr.ensures)

pub returns-in-34 : goal.returns-in-34
unfolding stmt_kind_of pick
returns-in-34 c = rw c.in-34.is (c.analyze_assign.ensures _)

pub returns-in-35 : goal.returns-in-35
unfolding stmt of_stmt stmt_as vars stmt_kind_of pick only
returns-in-35 c = rw c.in-35.is (rw (c.past.ensures.0, c.body-in-35.ensures.0) at c.run_expr-in-35.ensures)

pub returns-in-36 : goal.returns-in-36
unfolding stmt_kind_of pick
returns-in-36 c = rw c.in-36.is (c.analyze_write.ensures _)

pub returns-in-40 : goal.returns-in-40
unfolding stmt_kind_of pick
returns-in-40 c = rw c.in-40.is c.analyze_return.ensures

pub returns-in-41 : goal.returns-in-41
unfolding stmt_kind_of pick
returns-in-41 c = rw c.in-41.is (c.analyze_emit.ensures _)

pub returns-in-42 : goal.returns-in-42
unfolding stmt of_stmt stmt_as vars stmt_kind_of pick only
returns-in-42 c = rw c.in-42.is (rw c.body-in-42.ensures.0 at c.run_expr-in-42.ensures)

pub returns-in_default : goal.returns-in_default
unfolding stmt of_stmt stmt_as vars
returns-in_default c = rw (kind_rest c.args.k c.requires.0 (omega arith) (omega arith) (omega arith) (omega arith) c.requires.1.0 c.requires.1.1.0 c.requires.1.1.1 (omega arith) (omega arith) (omega arith)) (still_ok refl)
