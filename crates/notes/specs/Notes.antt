-- What the bytes of the notes say, and what analysis writes (02: P2).
-- Assumes nothing.
use Rattle.std.specs.Prelude.{List, [], ◌∷◌, ◌≡◌, ℕ, ◌+◌, ◌-◌, ◌*◌, ◌/◌, ◌%◌, eqb, length, get_or, set, None, Option, Some}
use Rattle.rules.specs.Bytes.{pick, Name, name_at}
use Rattle.rules.specs.Tables.{first_index}
use Rattle.rules.specs.Tree.{Struct, Contract}
use Rattle.rules.specs.Analyse.{field_name}
use Rattle.rules.specs.Read.{second, contract_at}
use Rattle.rules.specs.Meant.{Access, accesses, base_at}
use Rattle.rules.specs.Layout.{declared}
use Rattle.rules.specs.Refusal.{Res, ok}
use Rattle.rules.specs.Ambiguous.{first_ambiguous_lem}
use Rattle.tables.specs.Listed.{Tabled}

-- The notes, with the field of the access p at position k.
unfoldable pub noted : List ℕ → (p k : ℕ) → List ℕ
noted N p k = set N (p / 3) (p % 3 * 64 + k + 1)

-- The notes, with the mark that some access is searched: of no place does its byte say anything.
unfoldable pub left : List ℕ → List ℕ
left N = set N 21845 255

-- What a byte says of the place p.
unfoldable pub read_as_lem : (p byte : ℕ) → Option ℕ
read_as_lem p v = pick (eqb v 0) None (pick (eqb ((v - 1) / 64) (p % 3)) (Some ((v - 1) % 64)) None)

-- What the notes say of it.
unfoldable pub note_at : List ℕ → (p : ℕ) → Option ℕ
note_at N p = read_as_lem p (get_or N (p / 3) 0)

-- The first position of a field in a struct, if there is one.
unfoldable pub spot_in_lem : Option Struct → Name → Option ℕ
spot_in_lem (Some d) x = first_index field_name 0 x d.fields
spot_in_lem None x = None

-- 02: P2: where the field of an access stands in the declared struct that its base is of.
unfoldable pub spot_of : Contract → Access → Option ℕ
spot_of C a = spot_in_lem (declared C a.base) a.field

-- What is written for it.
unfoldable pub marked : List ℕ → (p : ℕ) → Option ℕ → List ℕ
marked N p (Some k) = noted N p k
marked N p None = left N

-- What is written for several, in turn.
unfoldable pub written : Contract → List ℕ → List Access → List ℕ
written C N [] = N
written C N (a ∷ l) = written C (marked N a.place (spot_of C a)) l

-- The field that is read at an access's place.
abbrev pub field_in : List ℕ → ℕ → Name
field_in img p = name_at img (second img p)

-- What analysis leaves behind: at every place of an image, where the access there finds its field, if its base is of a declared struct; and
-- where none is left to the search there is no 30.
pub record Noted (img N : List ℕ) : Type 0 where
  pub clear : get_or N 21845 0 ≡ 0 → first_ambiguous_lem (contract_at img) ≡ None
  pub is : (p : ℕ) → note_at N p ≡ spot_in_lem (declared (contract_at img) (base_at p (field_in img p) (accesses (contract_at img)))) (field_in img p)

-- What generation and 30 go by: the tables and the notes of an image.
abbrev pub Known : (img t N : List ℕ) → Type 0
Known img t N = Tabled img t × Noted img N

-- Notes that say nothing yet.
abbrev pub Blank : List ℕ → Type 0
Blank N = (length N ≡ 21846) × ((i : ℕ) → get_or N i 0 ≡ 0)

-- 02: P2: where there is an answer m, the notes N have become N', with those of the accesses l.
pub record Wrote {A : Type 0} (C : Contract) (N N' : List ℕ) (l : List Access) (m : Res A) : Type 0 where
  pub all : (a : A) → m ≡ ok a → N' ≡ written C N l
