-- `count_else` meets its contract.
use mathlib.Core.Path.{refl}
use Rattle.rules.specs.Read.{stmt_at_lem}
use Rattle.stmt.proofs.Trees.{else_some}
use Rattle.trace.specs.Moves.{other, none}
use Rattle.trace.proofs.count_else.Goals as goal

pub count_stmts-requires : goal.count_stmts-requires
count_stmts-requires c = rw (else_some (stmt_at_lem c.args.d c.args.analysed.now.contract.img.now) c.args.analysed.now.contract.img.now c.args.list c.args.stop c.if-list-stop.true) at c.requires

pub shape_of-scope : goal.shape_of-scope
shape_of-scope c = c.count_stmts.auto.scope

pub returns-then-list-stop : goal.returns-then-list-stop
returns-then-list-stop c = other c.if-list-stop.true c.count_stmts.ensures

pub returns-else-list-stop : goal.returns-else-list-stop
returns-else-list-stop c = none c.if-list-stop.false refl refl
