-- The functions of a contract in turn.
use Rattle.std.specs.Prelude.{}
use mathlib.Core.List.{List, [], ◌∷◌, map}
use mathlib.Core.Path.{◌≡◌, refl, sym}
use Prim.Native.Nat.{ℕ, zero, suc, ◌+◌, ◌*◌, ◌≤◌, ◌<◌}
use native.Mathlib.Omega.{arith}
use native.Mathlib.Numerals.{add-one}
use lib.ListN.{length, get_or, drop}
use Rattle.rules.specs.Seen.{Seen, Sound, Fault}
use Rattle.rules.specs.Check.{check_of}
use Rattle.rules.specs.Tree.{Function}
use Rattle.rules.specs.Refusal.{Refusal, Res, ok, bad}
use Rattle.rules.specs.Analyse.{function, functions, analyse}
use Rattle.rules.specs.Read.{function_at, contract_at}
use Rattle.rules.specs.Meant.{Access, of_function, of_functions, accesses}
use Rattle.rules.specs.Build.{passed}
use Rattle.rules.specs.Joined.{whole}
use Rattle.bounds.specs.Held.{each_of_map, each_get}
use Rattle.bounds.proofs.ContractOf.{names_few}
use Rattle.tables.specs.Listed.{functions_in}
use Rattle.notes.specs.Notes.{written}
use Rattle.notes.specs.Left.{written_append}
use Rattle.lookup.specs.Results.{then_ok, then_bad}
use Rattle.sema.specs.Steps.{names}
use Rattle.sema.specs.Entry.{Passed}

pub sound_in : (s : Seen) → passed s ≡ ok tt → (q : ℕ) × (m : ℕ) × (s ≡ Sound q m)
unfolding passed
sound_in (Sound q m) h = (q, m, refl)
sound_in (Fault n p) h = absurd (let z : ◌≡◌ {A = ℕ} 0 1 = cc in omega arith)

-- 01: an image has at most 65,536 bytes
pub small : (img : List ℕ) → Passed img → length img ≤ 65536
small img h = let s = sound_in (check_of img) h in (whole img s.0 s.1 s.2).0

-- 01: parameters, Lets and Fors together in one function 512
pub names_fit : (img : List ℕ) → Passed img → (i : ℕ) → i < length (functions_in img) → 2 * names (function_at img (get_or (functions_in img) i 0)) ≤ 1025
unfolding contract_at
names_fit img h i l =
    let s = sound_in (check_of img) h in
    let e = each_of_map (λ (f : Function). names f ≤ 512) (function_at img) (functions_in img) (names_few img s.0 s.1 s.2) in
    omega (arith, each_get (λ p. names (function_at img p) ≤ 512) (functions_in img) 0 e i l)

drop_get : (l : List ℕ) (i : ℕ) → i < length l → drop i l ≡ get_or l i 0 ∷ drop (suc i) l
drop_get [] i h = absurd (omega arith)
drop_get (a ∷ l) zero h = refl
drop_get (a ∷ l) (suc i) h = drop_get l i (omega arith)

drop_all : (l : List ℕ) (i : ℕ) → length l ≤ i → drop i l ≡ []
drop_all [] zero h = refl
drop_all [] (suc i) h = refl
drop_all (a ∷ l) zero h = absurd (omega arith)
drop_all (a ∷ l) (suc i) h = drop_all l i (omega arith)

-- the functions from index i on
abbrev pub from : List ℕ → ℕ → Res (Unit {0})
from img i = functions (contract_at img) (map (function_at img) (drop i (functions_in img)))

module _ (img : List ℕ) where
  pub from_start : analyse (contract_at img) ≡ from img 0
  unfolding analyse contract_at
  from_start = refl

  module _ (i : ℕ) where
    pub from_done : length (functions_in img) ≤ i → ok tt ≡ from img i
    unfolding functions
    from_done h = rw (drop_all (functions_in img) i h)

    module _ (l : i < length (functions_in img)) where
      pub from_next : ok tt ≡ function (contract_at img) (function_at img (get_or (functions_in img) i 0)) → from img i ≡ from img (i + 1)
      unfolding functions
      from_next h = rw (drop_get (functions_in img) i l, add-one) (sym (then_ok _ h refl))

      pub from_bad : {r : Refusal} → bad r ≡ function (contract_at img) (function_at img (get_or (functions_in img) i 0)) → bad r ≡ from img i
      unfolding functions
      from_bad h = rw (drop_get (functions_in img) i l) (then_bad _ h)

-- 02: P2: the accesses of the functions from index i on
abbrev pub accesses_from : List ℕ → ℕ → List Access
accesses_from img i = of_functions (contract_at img) (map (function_at img) (drop i (functions_in img)))

module _ (img N : List ℕ) where
  pub notes_start : written (contract_at img) N (accesses (contract_at img)) ≡ written (contract_at img) N (accesses_from img 0)
  unfolding accesses contract_at
  notes_start = refl

  pub notes_done : (i : ℕ) → length (functions_in img) ≤ i → written (contract_at img) N (accesses_from img i) ≡ N
  unfolding of_functions written
  notes_done i h = rw (drop_all (functions_in img) i h)

  pub notes_next : {N₁ : List ℕ} (i : ℕ) → i < length (functions_in img) → N₁ ≡ written (contract_at img) N (of_function (contract_at img) (function_at img (get_or (functions_in img) i 0)))
      → written (contract_at img) N (accesses_from img i) ≡ written (contract_at img) N₁ (accesses_from img (i + 1))
  unfolding of_functions
  notes_next i l h = rw (drop_get (functions_in img) i l, add-one, h) (written_append (contract_at img) N _ _)
