-- `gen_chunks` meets its contract.
use Rattle.expr.proofs.Chain.{chunks_low, chunks_high}
use native.Mathlib.Omega.{arith}
use Rattle.expr.proofs.steps.gen_chunks.Goals as goal

pub returns-then-high-eq0 : goal.returns-then-high-eq0
returns-then-high-eq0 c = chunks_low _ _ _ _ _ c.args.v (omega arith) c.requires c.if-high-eq0.true c.emit-a.ensures c.shift_in.ensures

pub returns : goal.returns
returns c = chunks_high _ _ _ _ _ _ c.if-high-eq0.false c.emit-a-2.ensures c.shift_in-b.ensures c.shift_in-2.ensures
