-- due_count meets its contract.
use Rattle.lookup.proofs.Signs.{count_fields, count_repeated}
use Rattle.lookup.specs.Answers.{due_of}
use Rattle.lookup.proofs.due_count.Goals as goal

pub returns-in-Words : goal.returns-in-Words
unfolding due_of
returns-in-Words c = rw c.in-Words.is (count_repeated _)

pub returns-in-Fields : goal.returns-in-Fields
returns-in-Fields c = rw c.in-Fields.is (count_fields c.args.img.now _ _ _ c.count.ensures)
