-- `why::in_function` meets its contract.
use mathlib.Core.Path.{sym, ◌∙◌}
use Prim.Native.Nat.{◌+◌}
use native.Mathlib.Omega.{arith}
use lib.ListN.{length-set}
use lib.Seq.{get_or-set_same}
use borrow.Author.Tests.{leb-false}
use Rattle.codegen.proofs.Pieces.{ready}
use Rattle.why.specs.Answers.{entry_own, exit_own, inside}
use Rattle.why.proofs.in_function.Goals as goal

pub bind_params-b-requires : goal.bind_params-b-requires
bind_params-b-requires c = (get_or-set_same c.args.scope.now 0 0 0 (omega (arith, c.requires.size)), (omega (arith, c.requires.size, length-set c.args.scope.now 0 0), c.args.analysed.now.contract.tabled.small))

pub bounds-scope-0-2 : goal.bounds-scope-0-2
bounds-scope-0-2 c = omega (arith, c.bind_params-b.auto.scope, length-set c.args.scope.now 0 0, c.requires.size)

pub shape_of-scope-then-want-u : goal.shape_of-scope-then-want-u
shape_of-scope-then-want-u c = c.bind_params-b.auto.scope ∙ length-set c.args.scope.now 0 0

pub returns-then-want-u : goal.returns-then-want-u
returns-then-want-u c = rw c.own.ensures (entry_own (record { takes = c.alloc_reg-a.ensures; pops = c.reserve-p.ensures; bound = c.bind_params-b.ensures; params = c.popped-q.ensures; pushes = c.reserve-u.ensures }) c.if-want-u.true)

pub shape_of-scope-then-among_last : goal.shape_of-scope-then-among_last
shape_of-scope-then-among_last c = c.bind_params-b.auto.scope ∙ length-set c.args.scope.now 0 0

pub returns-then-among_last : goal.returns-then-among_last
returns-then-among_last c = rw c.own-then-among_last.ensures (exit_own (record { takes = c.alloc_reg-a.ensures; pops = c.reserve-p.ensures; bound = c.bind_params-b.ensures; params = c.popped-q.ensures; pushes = c.reserve-u.ensures }) c.if-want-u.false (sym c.among_last.ensures ∙ c.if-among_last.true))

pub next_of-requires : goal.next_of-requires
next_of-requires c = omega (arith, c.bind_params-b.ensures.count, c.requires.names)

pub overflow_sub-end : goal.overflow_sub-end
overflow_sub-end c = omega (arith, leb-false c.args.end (c.args.want + 5) (sym c.among_last.ensures ∙ c.if-among_last.false))

pub find_stmt-requires : goal.find_stmt-requires
find_stmt-requires c = ready c.requires c.bind_params-b.ensures (c.bind_params-b.auto.scope ∙ length-set c.args.scope.now 0 0) c.statements.ensures

pub shape_of-scope : goal.shape_of-scope
shape_of-scope c = c.find_stmt.auto.scope ∙ c.bind_params-b.auto.scope ∙ length-set c.args.scope.now 0 0

pub returns : goal.returns
returns c = inside (record { takes = c.alloc_reg-a.ensures; pops = c.reserve-p.ensures; bound = c.bind_params-b.ensures; params = c.popped-q.ensures; pushes = c.reserve-u.ensures }) c.if-want-u.false (sym c.among_last.ensures ∙ c.if-among_last.false) c.statements.ensures (rw c.next_of.ensures at c.with-w.ensures) c.find_stmt.ensures
