-- Analysis that passes says that each call passes what its function takes.
-- Assumes nothing.
use Rattle.std.specs.Prelude.{◌≡◌, ℕ, length, Some}
use mathlib.Core.List.{List, [], ◌∷◌}
use Rattle.rules.specs.Bytes.{Name}
use Rattle.rules.specs.Tables.{last}
use Rattle.rules.specs.Tree.{Function}
use Rattle.rules.specs.Analyse.{function_name}
use Rattle.heights.specs.Fits.{StmtsFit}

-- The last function of the name x has n parameters.
abbrev pub Takes : List Function → Name → ℕ → Type 0
Takes fs x n = (f : Function) × (last function_name x fs ≡ Some f) × (length f.params ≡ n)

-- Of each body.
unfoldable pub BodiesFit : (Name → ℕ → Type 0) → List Function → Type 0
BodiesFit t [] = Unit {0}
BodiesFit t (f ∷ fs) = StmtsFit t f.body × BodiesFit t fs
