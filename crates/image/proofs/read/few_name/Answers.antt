-- `image::read::few_name`: where no top bit is set no sum wraps (`few_room`), and then the test tells the three bytes (`few`).
use mathlib.Core.Path.{sym, subst, ap, ◌∙◌}
use native.Mathlib.Omega.{arith}
use borrow.Author.Tests.{eqb-true}
use lib.Dec.{T}
use Rattle.rules.specs.Bytes.{name_byte_lem}
use Rattle.image.proofs.Swar.{few_room, few}
use Rattle.image.proofs.Names.{few_named}
use Rattle.image.proofs.read.few_name.Goals as goal

pub returns-then-w-ne0 : goal.returns-then-w-ne0
returns-then-w-ne0 c e = absurd (subst T (sym e) tt)

pub overflow_add-a : goal.overflow_add-a
overflow_add-a c = let r = few_room c.from.result c.from-2.result c.from-3.result (omega arith, omega arith, omega arith) c.if-w-ne0.false in omega arith

pub overflow_add-a-2 : goal.overflow_add-a-2
overflow_add-a-2 c = let r = few_room c.from.result c.from-2.result c.from-3.result (omega arith, omega arith, omega arith) c.if-w-ne0.false in omega arith

pub overflow_add-b : goal.overflow_add-b
overflow_add-b c = let r = few_room c.from.result c.from-2.result c.from-3.result (omega arith, omega arith, omega arith) c.if-w-ne0.false in omega arith

pub overflow_add-b-2 : goal.overflow_add-b-2
overflow_add-b-2 c = let r = few_room c.from.result c.from-2.result c.from-3.result (omega arith, omega arith, omega arith) c.if-w-ne0.false in omega arith

pub overflow_add-c : goal.overflow_add-c
overflow_add-c c = let r = few_room c.from.result c.from-2.result c.from-3.result (omega arith, omega arith, omega arith) c.if-w-ne0.false in omega arith

pub overflow_add-c-2 : goal.overflow_add-c-2
overflow_add-c-2 c = let r = few_room c.from.result c.from-2.result c.from-3.result (omega arith, omega arith, omega arith) c.if-w-ne0.false in omega arith

pub overflow_add-d : goal.overflow_add-d
overflow_add-d c = let r = few_room c.from.result c.from-2.result c.from-3.result (omega arith, omega arith, omega arith) c.if-w-ne0.false in omega arith

pub overflow_add-d-2 : goal.overflow_add-d-2
overflow_add-d-2 c = let r = few_room c.from.result c.from-2.result c.from-3.result (omega arith, omega arith, omega arith) c.if-w-ne0.false in omega arith

pub returns : goal.returns
returns c e = let n = few c.from.result c.from-2.result c.from-3.result (omega arith, omega arith, omega arith) c.if-w-ne0.false (eqb-true _ _ e) in few_named c.args.s.now c.args.from c.args.to (omega arith) (omega arith) (ap name_byte_lem (sym c.from.ensures) ∙ n.0, ap name_byte_lem (sym c.from-2.ensures) ∙ n.1, ap name_byte_lem (sym c.from-3.ensures) ∙ n.2)
