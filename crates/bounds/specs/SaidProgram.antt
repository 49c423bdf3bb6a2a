-- Every refusal of an image, before the room is looked at: Q holds of it if Q holds at the places and the names of the image.
-- Assumes nothing.
use Rattle.std.specs.Prelude.{◌≡◌, ℕ}
use mathlib.Core.List.{List}
use Rattle.rules.specs.Seen.{Sound}
use Rattle.rules.specs.Check.{check_of}
use Rattle.rules.specs.Tree.{Contract}
use Rattle.rules.specs.Read.{contract_at}
use Rattle.rules.specs.Refusal.{Refusal, Res}
use Rattle.bounds.specs.Said.{Said, Any}

-- Nothing is said of the answer.
abbrev pub Sure : (Q : Refusal → Type 0) {A : Type 0} → Res A → Type 0
Sure Q {A} m = Said Q (Any A) m

-- A contract is that of an image which passed the check.
pub record Of (img : List ℕ) (C : Contract) : Type 0 where
  pub is : C ≡ contract_at img
  pub end : ℕ
  pub names : ℕ
  pub sound : check_of img ≡ Sound end names
