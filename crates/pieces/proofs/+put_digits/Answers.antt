-- `pieces::put_digits` meets its contract: the last digit behind those before it.
use native.Mathlib.Omega.{arith}
use Rattle.pieces.specs.Lays.{lays_none, lays_one, lays_more, length_one, length_more}
use Rattle.pieces.proofs.+put_digits.Goals as goal

pub returns-then-left-eq0 : goal.returns-then-left-eq0
returns-then-left-eq0 t c = lays_none _ _ _ _ c.if-left-eq0.true

pub put_byte-requires : goal.put_byte-requires
put_byte-requires t c = omega (arith, c.requires, length_one _ _ c.if-left-eq0.false c.if-v-lt10.true)

pub returns-then-v-lt10 : goal.returns-then-v-lt10
returns-then-v-lt10 t c = lays_one c.if-left-eq0.false c.if-v-lt10.true c.put_byte.ensures

pub put_digits-m-requires : goal.put_digits-m-requires
put_digits-m-requires t c = (omega arith, omega (arith, c.requires, length_more _ _ c.if-left-eq0.false c.if-v-lt10.false))

pub put_byte-requires-2 : goal.put_byte-requires-2
put_byte-requires-2 t c = omega (arith, c.requires, length_more _ _ c.if-left-eq0.false c.if-v-lt10.false, c.put_digits-m.ensures.past, c.put_digits-m.auto.out)

pub returns : goal.returns
returns t c = lays_more c.if-left-eq0.false c.if-v-lt10.false c.put_digits-m.ensures c.put_byte-2.ensures
