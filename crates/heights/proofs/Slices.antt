-- What stands in the lent slices after a build that answers 0: the program's words, and entries that the law does not tell from its own.
-- Assumes nothing.
use Rattle.std.specs.Prelude.{◌≡◌, refl, List, [], ◌∷◌, ℕ, zero, suc, ◌*◌, ◌≤◌, length, take}
use Rattle.std.proofs.Common.{sym, ap, subst, ◌∙◌, arith}
use Rattle.std.proofs.lemmas.List.{length-map}
use Rattle.rules.specs.Machine.{Entry, At, number_of}
use Rattle.rules.specs.Lent.{over, spread}
use Rattle.rules.specs.Refusal.{Res, ok}
use Rattle.rules.specs.Read.{contract_at}
use Rattle.rules.specs.Emit.{Rules}
use Rattle.rules.specs.Link.{Program}
use Rattle.rules.specs.Build.{outcome, program_answer, words_of, three_of, at_exit, build_of, code_of, table_of}
use Rattle.heights.specs.Entries.{Covers, Like, Alike}
use Rattle.heights.proofs.Theorem.{obeyed, as_many}
use Rattle.heights.specs.Accepted.{Fitting}
use Rattle.heights.proofs.Accepted.{accepted}
use Rattle.heights.specs.Slices.{Lent, Listed, entries_in, past_in, table_in, words_in}

-- What was written is what stands there, if there is room.
pub take_over : {A : Type 0} (l s : List A) → length l ≤ length s → take (length l) (over l s) ≡ l
take_over [] s h = refl
take_over (a ∷ l) [] h = absurd (omega arith)
take_over (a ∷ l) (x ∷ s) h = ap (λ r. a ∷ r) (take_over l s (omega arith))

-- The end of a function is read back.
past_read : (i n : ℕ) (T : List Entry) (s : List ℕ) → 3 * length T ≤ length s → Covers i n T → i ≡ past_in (length T) n (over (spread three_of T) s)
unfolding past_in spread three_of Covers
past_read i n [] s h c = c
past_read i n (e ∷ T) [] h c = absurd (omega arith)
past_read i n (e ∷ T) (x ∷ []) h c = absurd (omega arith)
past_read i n (e ∷ T) (x ∷ y ∷ s) h c = sym c.0

-- They are read back from what was written.
pub entries_read : (i n : ℕ) (T : List Entry) (s : List ℕ) → 3 * length T ≤ length s → Covers i n T → Listed T (entries_in (length T) n (over (spread three_of T) s))
unfolding entries_in spread three_of Covers Listed
entries_read i n [] s h c = tt
entries_read i n (e ∷ T) [] h c = absurd (omega arith)
entries_read i n (e ∷ T) (x ∷ []) h c = absurd (omega arith)
entries_read i n (e ∷ T) (x ∷ y ∷ []) h c = absurd (omega arith)
entries_read i n (e ∷ T) (x ∷ y ∷ z ∷ s) h c =
    (refl, (refl, refl, past_read e.past n T s (omega arith) c.2), entries_read e.past n T s (omega arith) c.2)

-- The law does not tell them apart.
pub listed_alike : (T U : List Entry) → Listed T U → Alike T U
unfolding Listed Alike
listed_alike [] [] l = tt
listed_alike [] (d ∷ U) l = l
listed_alike (e ∷ T) [] l = l
listed_alike (e ∷ T) (d ∷ U) (p, q, l) = (q, listed_alike T U l)

-- The entry at an index stands at that index, and no other does.
pub listed_at : (T U : List Entry) → Listed T U → (k : ℕ) (e : Entry) → At T k e → (d : Entry) × At U k d × (d.place ≡ e.place) × Like e d
unfolding Listed
listed_at [] U l k e a = absurd a
listed_at (x ∷ T) [] l k e a = absurd l
listed_at (x ∷ T) (d ∷ U) (p, q, l) zero e a = (d, refl, p ∙ ap (λ (y : Entry). y.place) a, subst (λ (y : Entry). Like y d) a q)
listed_at (x ∷ T) (d ∷ U) (p, q, l) (suc k) e a = listed_at T U l k e a

-- And what stands there is an entry.
pub listed_from : (T U : List Entry) → Listed T U → (k : ℕ) (d : Entry) → At U k d → (e : Entry) × At T k e × Like e d
unfolding Listed
listed_from [] [] l k d a = absurd a
listed_from [] (x ∷ U) l k d a = absurd l
listed_from (e ∷ T) [] l k d a = absurd a
listed_from (e ∷ T) (x ∷ U) (p, q, l) zero d a = (e, refl, subst (Like e) a q)
listed_from (e ∷ T) (x ∷ U) (p, q, l) (suc k) d a = listed_from T U l k d a

-- What stands there is the program.
pub lent : (R : Rules) (img code table : List ℕ) → (build_of R img code table).refusal ≡ 0 → Lent R img code table
unfolding words_in table_in build_of code_of table_of program_answer at_exit words_of
lent R img code table z = from (accepted R img code table z)
  where
    from : (P : Program) × (outcome R img (length code) (length table) ≡ ok P) × Fitting R img (length code) (length table) P → Lent R img code table
    from (P, e, f) = record {
      P = P;
      is = f.is;
      words = subst (λ (m : Res Program). take (program_answer m).count (at_exit words_of m code) ≡ words_of P) (sym e)
          (subst (λ (n : ℕ). take n (over (words_of P) code) ≡ words_of P) same (take_over (words_of P) code (omega (arith, f.words, same))));
      entries = subst (λ (m : Res Program). Listed P.table (entries_in (length (contract_at img).functions) (program_answer m).count (at_exit (λ (Q : Program). spread three_of Q.table) m table))) (sym e)
          (subst (λ (k : ℕ). Listed P.table (entries_in k (length P.words) (over (spread three_of P.table) table))) (as_many R img P f.is)
          (entries_read 3 (length P.words) P.table table (omega (arith, f.table)) (obeyed R img P f.is).covers));
    }
      where
        same : length (words_of P) ≡ length P.words
        same = length-map P.words number_of
