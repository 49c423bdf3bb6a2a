-- place_at meets its contract.
use Rattle.tables.proofs.place_at.Goals as goal

pub returns-then-i-t : goal.returns-then-i-t
returns-then-i-t c = λ img ps l h. rw (c.place_in.ensures, c.cell.ensures) (l.places _ h)
