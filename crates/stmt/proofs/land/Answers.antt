-- land stores a jump into its slot.
use native.Mathlib.Omega.{arith}
use Rattle.rules.specs.Machine.{bits_of}
use Rattle.emit.specs.Ran.{raw}
use Rattle.emit.specs.Leaves.{cuts}
use Rattle.stmt.proofs.land.Goals.{else-end-lt-MOST-via-then-end-lt-MOST+else-k-end, else-end-lt-MOST-via-else-end-lt-MOST}
use Rattle.stmt.proofs.land.Goals as goal

pub returns-then-k-end : goal.returns-then-k-end
unfolding raw bits_of
returns-then-k-end c = record { stored = λ C p a b. rw (c.word.ensures, cuts, c.from.ensures) at c.patch.ensures }

-- The end is past what a jump reaches, or no block stands behind the slot.
pub returns-else-end-lt-MOST : goal.returns-else-end-lt-MOST
returns-else-end-lt-MOST c = record {
  stored = λ C p a b. elim c.else-end-lt-MOST.branch [
    | else-end-lt-MOST-via-then-end-lt-MOST+else-k-end w ↦ absurd (omega (arith, w.if-k-end.false, b))
    | else-end-lt-MOST-via-else-end-lt-MOST w ↦ absurd (omega (arith, w.if-end-lt-MOST.false, a))
  ];
}
