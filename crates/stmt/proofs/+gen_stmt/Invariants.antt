-- The cycle of the statements meets its contracts; each answer begins with the name of its function.
use Prim.Native.Nat.{◌+◌, ◌*◌, ◌-◌}
use Rattle.rules.specs.Read.{stmt_at_lem}
use Rattle.emit.specs.Sinks.{sinks}
use Rattle.stmt.proofs.Lists.{Loop}
use Rattle.stmt.proofs.+gen_stmt.Given as goal

abbrev pub invariant-gen_stmts-loop-p : goal.invariant-gen_stmts-loop-p
invariant-gen_stmts-loop-p l = Loop l.rules (stmt_at_lem l.d l.analysed.contract.img.now) l.analysed.contract.img.now (sinks l.initial.code l.initial.bytes) l.initial.scope l.end l.initial.p l.initial.s (sinks l.code l.bytes) l.scope l.p l.s

abbrev pub decreases-gen_stmts-loop-p : goal.decreases-gen_stmts-loop-p
decreases-gen_stmts-loop-p l = l.end - l.p

abbrev pub decreases-gen_else : goal.decreases-gen_else
decreases-gen_else l = 10 * l.d + 3

abbrev pub decreases-gen_for : goal.decreases-gen_for
decreases-gen_for l = 10 * l.d + 5

abbrev pub decreases-gen_if : goal.decreases-gen_if
decreases-gen_if l = 10 * l.d + 5

abbrev pub decreases-gen_loop : goal.decreases-gen_loop
decreases-gen_loop l = 10 * l.d + 3

abbrev pub decreases-gen_stmt : goal.decreases-gen_stmt
decreases-gen_stmt l = 10 * l.depth

abbrev pub decreases-gen_stmts : goal.decreases-gen_stmts
decreases-gen_stmts l = 10 * l.d + 1

abbrev pub decreases-gen_while : goal.decreases-gen_while
decreases-gen_while l = 10 * l.d + 5
