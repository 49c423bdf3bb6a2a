-- The grammar's tables as the code has them.
-- Assumes nothing.
use Rattle.std.specs.Prelude.{ℕ, ◌+◌, ◌-◌, ◌*◌, ◌/◌, ◌^◌, ◌<◌, ◌≡◌, Bool, false, List, [], ◌∷◌, eqb, leb, ltb, get_or, drop}
use Rattle.std.specs.Int.Bits.{bit_and}
use Rattle.rules.specs.Bytes.{pick, ◌or◌, ◌and◌}
use Rattle.rules.specs.Check.{undue}
use Rattle.rules.specs.Grammar.{class_of, parts_of}
use Rattle.image.specs.Leaves.{leaf}

-- A row of parts as one number, five bits a part, the first lowest.
unfoldable pub packed : List ℕ → ℕ
packed [] = 0
packed (x ∷ xs) = x + 32 * packed xs

-- A class of records in a List after i of them: above it how many more it may hold.
unfoldable pub listed : ℕ → ℕ → ℕ
listed x i = x + 4294967296 * ((class_of x).most - i)

-- What is due from the i-th part on of a record of kind k where d was due.
unfoldable pub dues_of : ℕ → ℕ → ℕ → ℕ
dues_of d k i = pick (eqb k 2) (listed (class_of d).item i) (packed (drop i (parts_of k)))

-- The same one part on, where x is the first: from 18 on it is one of a List.
unfoldable pub further : ℕ → ℕ → ℕ
further x dues = pick (leb 18 x) (dues - 4294967296) (dues / 32)

-- The List holds no more.
unfoldable pub full : ℕ → ℕ → Bool
full x dues = leb 18 x and ltb dues 4294967296

-- A table's row of kind k has bit x where the kind may stand where x is due.
unfoldable pub off : List ℕ → ℕ → ℕ → Bool
off t x k = leb 72 k or eqb (bit_and (get_or t k 0 / (2 ^ x)) 1) 0

-- What it says is due in a record of kind k where x was due: of a List it has another row.
unfoldable pub inner : List ℕ → ℕ → ℕ → ℕ
inner t x k = pick (eqb k 2) (get_or t (72 + x) 0) (get_or t k 0 / 4294967296)

-- The table is the grammar's.
pub record Right (t : List ℕ) : Type 0 where
  pub stands : (x k : ℕ) → x < 28 → off t x k ≡ (eqb x 0 or undue x k)
  pub leaves : (x k : ℕ) → x < 32 → off t x k ≡ false → ltb (get_or t k 0) 4294967296 ≡ leaf k
  pub within : (x k : ℕ) → x < 32 → off t x k ≡ false → ltb (get_or t k 0) 4294967296 ≡ false → inner t x k ≡ dues_of x k 0
  pub lists : (x : ℕ) → x < 32 → off t x 2 ≡ false → x < 18
