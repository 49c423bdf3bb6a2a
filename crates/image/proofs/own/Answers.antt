-- `image::own`: each return by its tests on the kind and the size.
use Prim.Native.Nat.{◌-◌}
use native.Mathlib.Omega.{arith}
use borrow.Author.Tests.{lt-ltb, le-ltb, eq-eqb, ne_eqb}
use Rattle.rules.specs.Bytes.{pick}
use Rattle.rules.specs.Check.{own_of}
use Rattle.image.proofs.own.Goals as goal

pub returns-then-to-from-eq0 : goal.returns-then-to-from-eq0
unfolding pick own_of
returns-then-to-from-eq0 c = let a = c.args in rw (eq-eqb a.kind 1 (omega arith), eq-eqb (a.to - a.from) 0 (omega arith))

pub returns-then-to-from-gt64 : goal.returns-then-to-from-gt64
unfolding pick own_of
returns-then-to-from-gt64 c = let a = c.args in rw (eq-eqb a.kind 1 (omega arith), ne_eqb (a.to - a.from) 0 (omega arith), lt-ltb 64 (a.to - a.from) (omega arith))

pub returns-then-kind-eq1 : goal.returns-then-kind-eq1
unfolding pick own_of
returns-then-kind-eq1 c = let a = c.args in rw (eq-eqb a.kind 1 (omega arith), ne_eqb (a.to - a.from) 0 (omega arith), le-ltb 64 (a.to - a.from) (omega arith)) c.all_name.ensures

pub returns-then-kind-eq3 : goal.returns-then-kind-eq3
unfolding pick own_of
returns-then-kind-eq3 c = let a = c.args in rw (ne_eqb a.kind 1 (omega arith), eq-eqb a.kind 3 (omega arith)) c.is_small.ensures

pub returns-then-kind-eq4 : goal.returns-then-kind-eq4
unfolding pick own_of
returns-then-kind-eq4 c = let a = c.args in rw (ne_eqb a.kind 1 (omega arith), ne_eqb a.kind 3 (omega arith), eq-eqb a.kind 4 (omega arith)) c.is_small-then-kind-eq4.ensures

pub returns-then-kind-eq64 : goal.returns-then-kind-eq64
unfolding pick own_of
returns-then-kind-eq64 c = let a = c.args in rw (ne_eqb a.kind 1 (omega arith), ne_eqb a.kind 3 (omega arith), ne_eqb a.kind 4 (omega arith), eq-eqb a.kind 64 (omega arith))

pub returns : goal.returns
unfolding pick own_of
returns c = let a = c.args in rw (ne_eqb a.kind 1 (omega arith), ne_eqb a.kind 3 (omega arith), ne_eqb a.kind 4 (omega arith), ne_eqb a.kind 64 (omega arith))
