-- Words that are no open calls, passed on the way to the next one that is.
--     Shut, ShutIn      word j is none: its low byte is an opcode; in a buffer of bytes that is its first
--     Closed            from an index to r, which is at most the end, there is none: none_yet, pass (n more), next (one more)
--     along             what a word that is none keeps, they all keep
-- Assumes nothing.
use Rattle.std.specs.Prelude.{◌≡◌, refl, Bool, true, false, List, ℕ, ◌+◌, ◌-◌, ◌*◌, ◌%◌, ◌≤◌, ◌<◌, leb, get_or}
use Rattle.std.proofs.Common.{subst, le_refl, add-one, arith, leb-true, leb-false}
use Rattle.std.proofs.Math.Decide.{le_ind}

abbrev pub Shut : (code : List ℕ) (j : ℕ) → Type 0
Shut c j = get_or c j 0 % 256 < 31

abbrev pub ShutIn : (bytes : List ℕ) (j : ℕ) → Type 0
ShutIn s j = get_or s (8 * j) 0 < 31

abbrev pub Each : (P : ℕ → Type 0) (i n : ℕ) → Type 0
Each P i n = (k : ℕ) → k < n → P (i + k)

pub record Closed (P : ℕ → Type 0) (from end r : ℕ) : Type 0 where
  pub low : from ≤ r
  pub high : r ≤ end
  pub all : (j : ℕ) → from ≤ j → j < r → P j

pub none_yet : {P : ℕ → Type 0} {from end : ℕ} → from ≤ end → Closed P from end from
none_yet {P} {from} h = record { low = le_refl from; high = h; all = λ j g l. absurd (omega arith) }

module _ {P : ℕ → Type 0} {from end i : ℕ} where
  pub pass : Closed P from end i → (n : ℕ) → i + n ≤ end → Each P i n → Closed P from end (i + n)
  pass q n h b = record { low = omega arith; high = h; all = λ j g l. by j g l (leb i j) refl }
    where
      by : (j : ℕ) → from ≤ j → j < i + n → (t : Bool) → leb i j ≡ t → P j
      by j g l true e = let a = leb-true i j e in let z : i + (j - i) ≡ j = omega arith in subst P z (b (j - i) (omega arith))
      by j g l false e = q.all j g (leb-false i j e)

  pub next : Closed P from end i → i < end → P i → Closed P from end (i + 1)
  next q h p = pass q 1 (omega arith) (λ k l. let z : i ≡ i + k = omega arith in subst P z p)

  pub along : (Q : ℕ → Type 0) → ((j : ℕ) → j < end → P j → Q j → Q (j + 1)) → Closed P from end i → Q from → Q i
  along Q f q z = le_ind (λ m. m ≤ i → Q m) (λ _. z) (λ m h g l. subst Q (add-one m) (f m (omega (arith, q.high)) (q.all m h l) (g (omega arith)))) i q.low (le_refl i)
