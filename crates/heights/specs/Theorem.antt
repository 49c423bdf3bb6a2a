-- Demand 3 over words as records: every function of an accepted contract obeys the law of heights.
-- Assumes nothing.
use Rattle.std.specs.Prelude.{List, ℕ, length}
use Rattle.rules.specs.Tree.{Function}
use Rattle.rules.specs.Machine.{Entry, At, Heights}
use Rattle.rules.specs.Link.{Program}
use Rattle.heights.specs.Entries.{Covers}
use Rattle.heights.specs.Law.{Home}
use Rattle.heights.specs.Placed.{Mirrors}

-- What a program is to its functions.
pub record Obeys (fs : List Function) (P : Program) : Type 0 where
  -- an entry for each as declared, earlier ones of a repeated name too, and no other
  pub mirrors : Mirrors fs P.table
  -- their words are all the words behind the opening's three
  pub covers : Covers 3 (length P.words) P.table
  -- each obeys the law
  pub law : (k : ℕ) (e : Entry) → At P.table k e → Heights P.words P.table e
  -- and some path through each comes to a Ret
  pub home : (k : ℕ) (e : Entry) → At P.table k e → Home P.words P.table e
