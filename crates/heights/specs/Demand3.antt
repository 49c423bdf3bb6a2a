-- DEMAND 3, to be held against document 01 (Heights) clause by clause. A path, what a word does to the height, and the law are in
-- Machine of crate `rules`; what a step does, row by row of the document, is in Rows. The opening's three words are no function's.
-- Assumes nothing.
use Rattle.std.specs.Prelude.{◌≡◌, ◌⊎◌, List, map, ℕ, ◌≤◌, ◌<◌}
use Rattle.rules.specs.Machine.{Word, Entry, At, kind, Way, Moves, Path, read}
use Rattle.heights.specs.Law.{Next, Stopped, Home}

-- The clauses, of the function f among the words as numbers with the table T. A path starts at the function's first word with its
-- parameters and the return address, and may go either way at each Jnz.
pub record Walked (words : List ℕ) (T : List Entry) (f : Entry) : Type 0 where
  -- on any path the height at each word is one number
  pub one_height : (i h h' : ℕ) → Path (map read words) T f i h → Path (map read words) T f i h' → h ≡ h'
  -- nothing is taken that is not there: a word that takes t is met at t or more
  pub enough : (i h : ℕ) → Path (map read words) T f i h → (w : Word) → At (map read words) i w
      → (y : Way) (t g j : ℕ) → Moves T i w.imm y (kind w.op) t g j → t ≤ h
  -- the path stays in the function
  pub stays : (i h : ℕ) → Path (map read words) T f i h → (f.first ≤ i) × (i < f.past)
  -- and stops only at a Ret, at height two: anywhere else a step leads on, whichever way is chosen
  pub stops : (i h : ℕ) → Path (map read words) T f i h → (y : Way)
      → Stopped (map read words) i h ⊎ ((j : ℕ) × (x : ℕ) × Next (map read words) T y i h j x)
  -- this is not said of nothing: some path comes to a Ret
  pub returns : Home (map read words) T f
