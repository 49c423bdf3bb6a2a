-- `image::refusal`: each return by the tests before it.
use Prim.Native.Nat.{◌+◌}
use borrow.Author.Tests.{eq-eqb, ne_eqb, lt-ltb, le-ltb}
use Rattle.rules.specs.Bytes.{pick}
use Rattle.image.specs.Within.{short, first_of}
use Rattle.image.proofs.refusal.Goals as goal

pub returns-then-size-lt2 : goal.returns-then-size-lt2
unfolding first_of short pick
returns-then-size-lt2 c = rw (lt-ltb c.args.size 2 c.if-size-lt2.true)

pub returns-then-room-size : goal.returns-then-room-size
unfolding first_of short pick
returns-then-room-size c = rw (le-ltb c.args.size 2 c.if-size-lt2.false, lt-ltb c.args.room (4 + c.args.size) c.if-room-size.true)

pub returns-then-left-eq0 : goal.returns-then-left-eq0
unfolding first_of short pick
returns-then-left-eq0 c = rw (le-ltb c.args.size 2 c.if-size-lt2.false, le-ltb c.args.room (4 + c.args.size) c.if-room-size.false, eq-eqb c.args.left 0 c.if-left-eq0.true)

pub returns-then-not_due : goal.returns-then-not_due
unfolding first_of short pick
returns-then-not_due c = rw (le-ltb c.args.size 2 c.if-size-lt2.false, le-ltb c.args.room (4 + c.args.size) c.if-room-size.false, ne_eqb c.args.left 0 c.if-left-eq0.false, ← c.not_due.ensures, c.if-not_due.true)

pub returns-then-too_many : goal.returns-then-too_many
unfolding first_of short pick
returns-then-too_many c = rw (le-ltb c.args.size 2 c.if-size-lt2.false, le-ltb c.args.room (4 + c.args.size) c.if-room-size.false, ne_eqb c.args.left 0 c.if-left-eq0.false, ← c.not_due.ensures, c.if-not_due.false, ← c.too_many.ensures, c.if-too_many.true)

pub returns : goal.returns
unfolding first_of short pick
returns c = rw (le-ltb c.args.size 2 c.if-size-lt2.false, le-ltb c.args.room (4 + c.args.size) c.if-room-size.false, ne_eqb c.args.left 0 c.if-left-eq0.false, ← c.not_due.ensures, c.if-not_due.false, ← c.too_many.ensures, c.if-too_many.false)
