-- Demand 3 of the entry structs that `build_entries` leaves behind.
--     spans n es     the functions that the entries tell of, in a program of n words: each ends where the next one starts, the last with the program
-- Assumes nothing.
use Rattle.std.specs.Prelude.{◌≡◌, refl, List, [], ◌∷◌, ℕ, zero, suc, ◌≤◌, length, take}
use Rattle.std.proofs.Common.{subst, arith}
use Rattle.rules.specs.declared.Answer.{Answer}
use Rattle.rules.specs.Read.{contract_at}
use Rattle.rules.specs.Lent.{spread}
use Rattle.rules.specs.Emit.{Rules}
use Rattle.rules.specs.Machine as machine
use Rattle.rules.specs.Machine.{Demand3}
use Rattle.heights.specs.Slices.{past_in, entries_in}
use Rattle.compiler.specs.Ends.{Built}
use Rattle.compiler.specs.Walks as flat
use Rattle.entries.specs.declared.Entry.{Entry}
use Rattle.entries.specs.Entries.{numbers_of}
use Rattle.entries.specs.Whole.{rest_lent}

-- where a function's words end, with these entries behind it
unfoldable pub ends : ℕ → List Entry → ℕ
ends n [] = n
ends n (e ∷ es) = e.first

unfoldable pub spans : ℕ → List Entry → List machine.Entry
spans n [] = []
spans n (e ∷ es) = record { place = e.place; name = []; params = e.params; first = e.first; past = ends n es } ∷ spans n es

-- they are what the numbers tell of
past_is : (k n : ℕ) (es : List Entry) → k ≤ length es → past_in k n (numbers_of es) ≡ ends n (take k es)
unfolding past_in ends spread
past_is zero n es h = refl
past_is (suc k) n [] h = absurd (omega arith)
past_is (suc k) n (e ∷ es) h = refl

spans_are : (k n : ℕ) (es : List Entry) → k ≤ length es → entries_in k n (numbers_of es) ≡ spans n (take k es)
unfolding entries_in spans spread
spans_are zero n es h = refl
spans_are (suc k) n [] h = absurd (omega arith)
spans_are (suc k) n (e ∷ es) h = rw (past_is k n es (omega arith), spans_are k n es (omega arith)) refl

-- If it answers 0, the first `count` numbers of the code slice with the entries of the contract's functions obey the law.
pub walks : (R : Rules) → R.free ≤ 30 → (img code : List ℕ) (es : List Entry) (a : Answer) (c : List ℕ) (t : List Entry) → Built R img code (numbers_of es) a c (numbers_of t) → a.refusal ≡ 0
    → Demand3 (take a.count c) (spans a.count (take (length (contract_at img).functions) t))
walks R few img code es a c t b z =
    let (w, r) = rest_lent R img code es a c t b z in
    let fits : length (contract_at img).functions ≤ length t = omega (arith, r.room, r.long) in
    subst (λ (T : List machine.Entry). Demand3 (take a.count c) T) (spans_are (length (contract_at img).functions) a.count t fits)
    (flat.walks R few img code (numbers_of es) a c (numbers_of t) b z)
