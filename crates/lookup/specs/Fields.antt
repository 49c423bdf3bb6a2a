-- What is known of a field, and what an access answers and notes (02: P2).
-- Assumes nothing.
use Rattle.std.specs.Prelude.{List, ◌≡◌, ℕ, ◌<◌, None, Option, Result, Some}
use Rattle.rules.specs.Bytes.{Name, name_at}
use Rattle.rules.specs.Tables.{last, first_index}
use Rattle.rules.specs.Types.{Typ}
use Rattle.rules.specs.Refusal.{ok}
use Rattle.rules.specs.Analyse.{access}
use Rattle.rules.specs.Layout.{declared}
use Rattle.rules.specs.Read.{places_in, name_in, contract_at}
use Rattle.notes.specs.Notes.{spot_in_lem, marked}
use Rattle.lookup.specs.declared.Ty.{Ty}
use Rattle.lookup.specs.declared.Fault.{Fault}
use Rattle.lookup.specs.declared.Spot.{Spot}
use Rattle.lookup.specs.Answers.{typed_of}

-- the first position; the place of the last Field
unfoldable pub first_of : Option Spot → Option ℕ
first_of (Some s) = Some s.position
first_of None = None

unfoldable pub last_of : Option Spot → Option ℕ
last_of (Some s) = Some s.place
last_of None = None

-- 000: position; 001: the fields of a struct in a HashMap: in the List of Fields at l, of the name x
pub record Spotted (img : List ℕ) (l : ℕ) (x : Name) (r : Option Spot) : Type 0 where
  pub first : first_of r ≡ first_index (name_in img) 0 x (places_in 64 img l)
  pub last : last_of r ≡ last (name_in img) x (places_in 64 img l)
  pub below : (n : ℕ) → first_of r ≡ Some n → n < 64

-- 001: FieldAccess, of the field with the name at x and a base of type t; where it is accepted, the notes N become N'
pub record Accessed (img N N' : List ℕ) (at : ℕ) (t : Typ) (x : ℕ) (r : Result Ty Fault) : Type 0 where
  pub types : typed_of img r ≡ access (contract_at img) at t (name_at img x)
  pub notes : (u : Typ) → typed_of img r ≡ ok u → N' ≡ marked N at (spot_in_lem (declared (contract_at img) t) (name_at img x))
