-- What the entries ask and answer.
-- Assumes nothing.
use Rattle.std.specs.Prelude.{List, ◌≡◌, ℕ}
use Rattle.rules.specs.Check.{check_of}
use Rattle.rules.specs.Read.{contract_at}
use Rattle.rules.specs.Refusal.{Res, ok}
use Rattle.rules.specs.Analyse.{analyse}
use Rattle.rules.specs.Build.{passed}

-- the image passed the check
abbrev pub Passed : List ℕ → Type 0
Passed img = passed (check_of img) ≡ ok tt

-- 001: analyze, of the contract of an image
abbrev pub analysis : List ℕ → Res (Unit {0})
analysis img = analyse (contract_at img)
