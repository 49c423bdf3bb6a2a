-- `image::read::name_byte`: at each return the tests that led there give the value of each test of `name_byte_lem`.
use native.Mathlib.Omega.{arith}
use borrow.Author.Tests.{le-leb, lt-leb, eq-eqb, ne_eqb}
use Rattle.rules.specs.Bytes.{name_byte_lem}
use Rattle.image.proofs.read.name_byte.Goals as goal

pub returns-then-x-lt48 : goal.returns-then-x-lt48
unfolding name_byte_lem
returns-then-x-lt48 c = let x = c.args.x in simp (lt-leb 48 x (omega arith), lt-leb 65 x (omega arith), ne_eqb x 95 (omega arith), lt-leb 97 x (omega arith))

pub returns-then-x-le58 : goal.returns-then-x-le58
unfolding name_byte_lem
returns-then-x-le58 c = let x = c.args.x in simp (le-leb 48 x (omega arith), le-leb x 58 (omega arith))

pub returns-then-x-lt65 : goal.returns-then-x-lt65
unfolding name_byte_lem
returns-then-x-lt65 c = let x = c.args.x in simp (le-leb 48 x (omega arith), lt-leb x 58 (omega arith), lt-leb 65 x (omega arith), ne_eqb x 95 (omega arith), lt-leb 97 x (omega arith))

pub returns-then-x-le90 : goal.returns-then-x-le90
unfolding name_byte_lem
returns-then-x-le90 c = let x = c.args.x in simp (le-leb 48 x (omega arith), lt-leb x 58 (omega arith), le-leb 65 x (omega arith), le-leb x 90 (omega arith))

pub returns-then-x-eq95 : goal.returns-then-x-eq95
unfolding name_byte_lem
returns-then-x-eq95 c = let x = c.args.x in simp (le-leb 48 x (omega arith), lt-leb x 58 (omega arith), le-leb 65 x (omega arith), lt-leb x 90 (omega arith), eq-eqb x 95 (omega arith))

pub returns-then-x-lt97 : goal.returns-then-x-lt97
unfolding name_byte_lem
returns-then-x-lt97 c = let x = c.args.x in simp (le-leb 48 x (omega arith), lt-leb x 58 (omega arith), le-leb 65 x (omega arith), lt-leb x 90 (omega arith), ne_eqb x 95 (omega arith), lt-leb 97 x (omega arith))

pub returns : goal.returns
unfolding name_byte_lem
returns c = let x = c.args.x in simp (le-leb 48 x (omega arith), lt-leb x 58 (omega arith), le-leb 65 x (omega arith), lt-leb x 90 (omega arith), ne_eqb x 95 (omega arith), le-leb 97 x (omega arith))
