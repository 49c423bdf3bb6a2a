-- int meets its contract.
use Rattle.rules.specs.Bytes.{le64, int_at}
use Rattle.records.proofs.int.Goals as goal

pub returns-then-img-p-lt8 : goal.returns-then-img-p-lt8
unfolding int_at le64
returns-then-img-p-lt8 c = rw (c.word32.ensures.0, c.word32-then-img-p-lt8.ensures.0, c.body-p.ensures.0)

pub returns : goal.returns
unfolding int_at
returns c = rw (c.eight_in.ensures, c.body-p.ensures.0)
