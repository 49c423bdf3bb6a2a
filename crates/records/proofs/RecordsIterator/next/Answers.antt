-- The iterator over records gives the first place that is left, and leaves the others.
use Rattle.std.proofs.Common.{◌≡◌, [], arith, ap, length}
use Rattle.records.specs.Records.{places_left}
use Rattle.records.specs.Places.{places_zero, places_end, places_more}
use Rattle.records.proofs.RecordsIterator.next.Goals as goal
use Rattle.records.proofs.RecordsIterator.next.Goals.{then-self-eq0-via-then-self-eq0, then-self-eq0-via-else-self-eq0+then-self}

pub returns-then-self-eq0-clause-steps : goal.returns-then-self-eq0-clause-steps
returns-then-self-eq0-clause-steps c =
    let s = c.args.self.now in
    let none : places_left s ≡ [] = elim c.then-self-eq0.branch [
      | then-self-eq0-via-then-self-eq0 w ↦ places_zero s.img.now s.left s.at s.end w.if-self-eq0.true
      | then-self-eq0-via-else-self-eq0+then-self w ↦ places_end s.img.now s.left s.at s.end w.if-self.true
    ] in
    (none, none)

pub returns-clause-steps : goal.returns-clause-steps
returns-clause-steps c = let s = c.args.self.now in rw c.past-self.ensures.0 (places_more s.img.now s.left s.at s.end c.if-self-eq0.false (omega (arith, c.if-self.false)))

pub returns-clause-goes : goal.returns-clause-goes
returns-clause-goes c =
    let s = c.args.self.now in
    let more = ap length (places_more s.img.now s.left s.at s.end c.if-self-eq0.false (omega (arith, c.if-self.false))) in
    record { on = λ h. (tt, tt, rw c.past-self.ensures.0 (omega (arith, more))); keeps = tt; rests = λ h. tt }
