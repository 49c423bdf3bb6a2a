-- `isa::byte::height` meets its contract: each arm is an entry of the list of `height_in`; the rest is past its end.
use Rattle.std.proofs.Common.{refl, arith}
use Rattle.isa.specs.Facts.{height_in}
use Rattle.isa.specs.Ruled.{passed, height_last}
use Rattle.isa.proofs.byte.height.Goals as goal

pub returns-in-0 : goal.returns-in-0
unfolding height_in
returns-in-0 c = rw c.in-0.is refl

pub returns-in-1 : goal.returns-in-1
unfolding height_in
returns-in-1 c = rw c.in-1.is refl

pub returns-in-2 : goal.returns-in-2
unfolding height_in
returns-in-2 c = rw c.in-2.is refl

pub returns-in-3 : goal.returns-in-3
unfolding height_in
returns-in-3 c = rw c.in-3.is refl

pub returns-in_default : goal.returns-in_default
returns-in_default c = height_last _ (passed 3 _ (passed 2 _ (passed 1 _ (passed 0 _ (omega arith) c.in_default.in_default-own.rest.0.0.0.1) c.in_default.in_default-own.rest.0.0.1) c.in_default.in_default-own.rest.0.1) c.in_default.in_default-own.rest.1)
