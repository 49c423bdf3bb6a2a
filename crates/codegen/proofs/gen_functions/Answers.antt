-- gen_functions meets its contract.
use native.Mathlib.Omega.{arith}
use Rattle.codegen.proofs.Firsts.{given, at_most, begins, goes, ends}
use Rattle.codegen.proofs.gen_functions.Goals as goal

pub loop-k-init : goal.loop-k-init
loop-k-init c = begins _ _

pub bounds-firsts-k : goal.bounds-firsts-k
bounds-firsts-k c = omega (arith, c.loop-k.invariant.size, c.requires.1.1, at_most c.args.analysed.now.contract.img.now, c.loop-k-test.true, c.function_count-functions.ensures)

pub gen_part-s-requires : goal.gen_part-s-requires
gen_part-s-requires c = given _ c.requires.0 (omega (arith, c.loop-k-test.true, c.function_count-functions.ensures)) (c.function_place-f.ensures (omega (arith, c.loop-k-test.true, c.function_count-functions.ensures))) (omega (arith, c.loop-k.invariant.scope, c.requires.1.0))

pub loop-k-preserved : goal.loop-k-preserved
loop-k-preserved c = goes _ _ c.loop-k.invariant (omega (arith, c.loop-k-test.true, c.function_count-functions.ensures)) c.requires.1.1 (c.function_place-f.ensures (omega (arith, c.loop-k-test.true, c.function_count-functions.ensures))) c.gen_part-s.ensures (c.gen_part-s.auto.code, c.gen_part-s.auto.bytes) c.gen_part-s.auto.scope

pub shape_of-code : goal.shape_of-code
shape_of-code c = c.loop-k.invariant.room.0

pub shape_of-bytes : goal.shape_of-bytes
shape_of-bytes c = c.loop-k.invariant.room.1

pub shape_of-scope : goal.shape_of-scope
shape_of-scope c = c.loop-k.invariant.scope

pub shape_of-firsts : goal.shape_of-firsts
shape_of-firsts c = c.loop-k.invariant.size

pub returns : goal.returns
returns c = ends _ _ c.loop-k.invariant (omega (arith, c.loop-k.auto.k-end, c.loop-k-test.false, c.function_count-functions.ensures))
