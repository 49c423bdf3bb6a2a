-- name meets its contract: a Name within the image by two tests of its length, any other by its body and its end.
use native.Mathlib.Omega.{arith}
use Prim.Native.Nat.{ℕ, ◌+◌, ◌-◌}
use mathlib.Core.Path.{◌≡◌, refl}
use mathlib.Core.List.{List}
use lib.ListN.{take, drop}
use Rattle.rules.specs.Bytes.{inside, after, name_at}
use Rattle.records.proofs.name.Goals as goal

-- the bytes between a record's payload and its end
name-at : (img : List ℕ) (i a e : ℕ) → a ≡ inside img i → e ≡ after img i → take (e - a) (drop a img) ≡ name_at img i
unfolding name_at
name-at img i a e p q = rw (p, q) refl

pub returns-then-size-left : goal.returns-then-size-left
unfolding inside after
returns-then-size-left c = name-at c.args.img.now c.args.i (c.args.i + 6) (c.args.i + 4 + c.word_in-size.result) (omega arith) (omega arith)

pub returns-then-a-e : goal.returns-then-a-e
unfolding name_at
returns-then-a-e c = rw (c.past-e.ensures.0, c.body-a.ensures.0)

pub returns-else-a-e : goal.returns-else-a-e
unfolding name_at
returns-else-a-e c = let z : c.body-a.result - c.body-a.result ≡ c.past-e.result - c.body-a.result = omega arith in
    rw (z, c.past-e.ensures.0, c.body-a.ensures.0)
