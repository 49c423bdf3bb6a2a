-- gen_function meets its contract.
use mathlib.Core.Path.{◌∙◌}
use native.Mathlib.Omega.{arith}
use lib.ListN.{length-set}
use lib.Seq.{get_or-set_same}
use Rattle.codegen.proofs.Pieces.{ready, whole}
use Rattle.codegen.proofs.gen_function.Goals as goal

pub bind_params-b-requires : goal.bind_params-b-requires
bind_params-b-requires c = (get_or-set_same c.args.scope.now 0 0 0 (omega (arith, c.requires.size)), (omega (arith, c.requires.size, length-set c.args.scope.now 0 0), c.args.analysed.now.contract.tabled.small))

pub pop_params-q-requires : goal.pop_params-q-requires
pop_params-q-requires c = (omega (arith, c.bind_params-b.ensures.count, c.requires.names), omega (arith, c.bind_params-b.auto.scope, length-set c.args.scope.now 0 0, c.requires.size))

pub bounds-scope-0-2 : goal.bounds-scope-0-2
bounds-scope-0-2 c = omega (arith, c.bind_params-b.auto.scope, length-set c.args.scope.now 0 0, c.requires.size)

pub next_of-requires : goal.next_of-requires
next_of-requires c = omega (arith, c.bind_params-b.ensures.count, c.requires.names)

pub gen_stmts-d-requires : goal.gen_stmts-d-requires
gen_stmts-d-requires c = (rw (c.body.ensures.0, c.past.ensures.0) (ready c.requires c.bind_params-b.ensures (c.bind_params-b.auto.scope ∙ length-set c.args.scope.now 0 0) c.statements-list.ensures), c.past.ensures.1)

pub shape_of-code : goal.shape_of-code
shape_of-code c = c.gen_end.auto.code ∙ c.gen_stmts-d.auto.code ∙ c.emit-u.auto.code ∙ c.pop_params-q.auto.code ∙ c.emit-p.auto.code

pub shape_of-bytes : goal.shape_of-bytes
shape_of-bytes c = c.gen_end.auto.bytes ∙ c.gen_stmts-d.auto.bytes ∙ c.emit-u.auto.bytes ∙ c.pop_params-q.auto.bytes ∙ c.emit-p.auto.bytes

pub shape_of-scope : goal.shape_of-scope
shape_of-scope c = c.gen_stmts-d.auto.scope ∙ c.bind_params-b.auto.scope ∙ length-set c.args.scope.now 0 0

pub returns : goal.returns
returns c = whole _ c.args.st c.with-s.ensures c.alloc_reg-a.ensures c.emit-p.ensures c.bind_params-b.ensures c.pop_params-q.ensures c.emit-u.ensures (rw c.next_of.ensures at c.with-w.ensures) (rw (c.body.ensures.0, c.past.ensures.0, c.statements-list.ensures) at c.gen_stmts-d.ensures) c.gen_end.ensures
