-- Nothing but acceptance answers 0; and what acceptance says of the room.
-- Assumes nothing.
use Rattle.std.specs.Prelude.{◌≡◌, List, ℕ, ◌/◌, ◌≤◌, length}
use Rattle.rules.specs.Refusal.{ok}
use Rattle.rules.specs.Emit.{Rules}
use Rattle.rules.specs.Link.{Program}
use Rattle.rules.specs.Build.{program}

-- What acceptance says of the room.
pub record Fitting (R : Rules) (img : List ℕ) (n t : ℕ) (P : Program) : Type 0 where
  pub is : program R img ≡ ok P
  pub words : length P.words ≤ n
  pub table : length P.table ≤ t / 3
