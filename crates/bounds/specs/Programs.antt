-- What is known of every program that an image comes to: it is short, and each word of it has a number, without top bits, and with nothing in
-- the fields that our generator does not set.
-- Assumes nothing.
use Rattle.std.specs.Prelude.{◌≡◌, map, ℕ, ◌+◌, ◌≤◌, ◌<◌, length}
use Rattle.rules.specs.Machine.{Word, Entry, At, read}
use Rattle.rules.specs.Link.{Built, Program}
use Rattle.rules.specs.Build.{words_of}
use Rattle.bounds.specs.Held.{Each}
use Rattle.bounds.specs.Numbers.{Encodable}
use Rattle.bounds.specs.Fields.{Within}
use Rattle.bounds.specs.Ranges.{Ranged}

-- What is known of a program.
pub record Bounded (P : Program) : Type 0 where
  pub short : length P.words < 1048576
  pub encodable : (i : ℕ) (w : Word) → At P.words i w → Encodable w
  pub within : (i : ℕ) (w : Word) → At P.words i w → Within w
  pub read_back : map read (words_of P) ≡ P.words

-- The functions of a checked image, their calls still open: few words, and each has a number.
pub record Short (i : ℕ) (b : Built) : Type 0 where
  pub few : length b.code ≤ 709930
  pub ranged : Ranged b.code
  pub firsts : Each (λ (e : Entry). e.first ≤ i + 709930) b.table
