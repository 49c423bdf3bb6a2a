-- pop_params meets its contract.
use native.Mathlib.Omega.{arith}
use Rattle.codegen.proofs.Params.{pops_begin, pops_go, pops_end}
use Rattle.codegen.proofs.pop_params.Goals as goal

pub loop-k-init : goal.loop-k-init
loop-k-init c = pops_begin _ _ _

pub loop-k-preserved : goal.loop-k-preserved
loop-k-preserved c = pops_go _ _ _ c.loop-k.invariant (λ z. omega (arith, z, c.loop-k-test.true)) c.number_in-reg.ensures c.emit-s.ensures (c.emit-s.auto.code, c.emit-s.auto.bytes)

pub shape_of-code : goal.shape_of-code
shape_of-code c = c.loop-k.invariant.room.0

pub shape_of-bytes : goal.shape_of-bytes
shape_of-bytes c = c.loop-k.invariant.room.1

pub returns : goal.returns
returns c = pops_end _ _ _ c.loop-k.invariant (omega (arith, c.loop-k-test.false))
