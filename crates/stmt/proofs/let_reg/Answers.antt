-- let_reg gives a Let its register, in each of its three ways.
use native.Mathlib.Omega.{arith}
use Rattle.stmt.proofs.Laws.{own, copied, shared}
use Rattle.stmt.proofs.let_reg.Goals as goal

pub returns-then-first-low : goal.returns-then-first-low
returns-then-first-low c = own c.if-first-low.true (omega arith) c.with.ensures

pub returns-then-rules : goal.returns-then-rules
returns-then-rules c = copied c.if-first-low.false c.if-rules.true c.emit_new.ensures

pub returns : goal.returns
returns c = shared c.if-first-low.false c.if-rules.false c.with-2.ensures
