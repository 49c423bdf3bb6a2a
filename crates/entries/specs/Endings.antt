-- What a build over entries comes to, once all but the table is made (compiler: Leaves).
--     Fitting      of an accepted build: the n functions are listed and have room, and filling the table gives the whole answer
--     accepted, refused_one      the two endings
-- Assumes nothing.
use Rattle.std.specs.Prelude.{◌≡◌, refl, List, [], ◌∷◌, ◌++◌, ℕ, zero, suc, ◌/◌, ◌≤◌, length, replicate}
use Rattle.std.proofs.Common.{sym, ap, subst, ◌∙◌, arith, ltb-false}
use Rattle.rules.specs.declared.Answer.{Answer}
use Rattle.rules.specs.Refusal.{Res, ok}
use Rattle.rules.specs.Emit.{Rules}
use Rattle.rules.specs.Link.{Program}
use Rattle.rules.specs.Lent.{over, spread}
use Rattle.rules.specs.Build.{program, fits, listed, outcome, three_of}
use Rattle.bounds.specs.Answers.{All, from_ok, all_next, all_unless}
use Rattle.lent.specs.Over.{spread_append}
use Rattle.tables.specs.Listed.{Tabled, functions_in}
use Rattle.compiler.specs.Made.{three, below, mirrors_length, rows_are}
use Rattle.compiler.specs.Stages.{Leaves, left, emptied}
use Rattle.compiler.specs.Ends.{Built, refuses, accepts}
use Rattle.entries.specs.declared.Entry.{Entry}
use Rattle.entries.specs.Entries.{blank, numbers, numbers_of, numbers_length, numbers_over, numbers_blank}
use Rattle.entries.specs.Rows.{entry_of, entries_of}

-- 51 is not given
within : (R : Rules) (img : List ℕ) (n t : ℕ) → All (λ (P : Program). length P.table ≤ t / 3) (outcome R img n t)
unfolding outcome fits listed
within R img n t = all_next (program R img) _ (λ P. all_next (fits n P) _ (λ Q. all_unless _ _ Q (λ e. ltb-false _ _ e)))

fits_table : (R : Rules) (img : List ℕ) (n t : ℕ) (P : Program) → outcome R img n t ≡ ok P → length P.table ≤ t / 3
fits_table R img n t P e = from_ok (subst (All (λ (Q : Program). length Q.table ≤ t / 3)) e (within R img n t))

-- the rows that are filled, as numbers
one_row : (img F : List ℕ) (k : ℕ) → numbers (entry_of img F k) ≡ three img F k
unfolding entry_of three
one_row img F k = refl

rows_numbers : (img F : List ℕ) (n : ℕ) → numbers_of (entries_of img F n) ≡ spread (three img F) (below n)
unfolding entries_of below spread
rows_numbers img F zero = refl
rows_numbers img F (suc n) =
    spread_append numbers (entries_of img F n) (entry_of img F n ∷ [])
    ∙ ap (λ (l : List ℕ). l ++ (numbers (entry_of img F n) ++ [])) (rows_numbers img F n)
    ∙ ap (λ (l : List ℕ). spread (three img F) (below n) ++ (l ++ [])) (one_row img F n)
    ∙ sym (spread_append (three img F) (below n) (n ∷ []))

module _ (R : Rules) (img c : List ℕ) (ys : List Entry) (a : Answer) (c' F T : List ℕ) where
  pub record Fitting (n : ℕ) : Type 0 where
    pub tabled : Tabled img T
    pub functions : n ≡ length (functions_in img)
    pub room : n ≤ length ys
    pub built : Built R img c (numbers_of ys) a c' (numbers_of (over (entries_of img F n) ys))

  accepting : (o : Res Program) → outcome R img (length c) (length (numbers_of ys)) ≡ o → Leaves img c a c' F T o → a.refusal ≡ 0 → (n : ℕ) → (Tabled img T → n ≡ length (functions_in img)) → Fitting n
  accepting o e (left P h) z n count =
      let f : n ≡ length (functions_in img) = count h.tabled in
      let l : length P.table ≡ length (functions_in img) = mirrors_length img (functions_in img) P.table h.mirrors in
      let r : numbers_of (over (entries_of img F n) ys) ≡ over (spread three_of P.table) (numbers_of ys) =
      numbers_over (entries_of img F n) ys ∙ ap (λ (s : List ℕ). over s (numbers_of ys)) (rows_numbers img F n ∙ rows_are img F P.table h.mirrors h.firsts n (f ∙ sym l)) in
      let b = accepts R img c (numbers_of ys) P e in
      record {
        tabled = h.tabled;
        functions = f;
        room = omega (arith, f, l, fits_table R img (length c) (length (numbers_of ys)) P e, numbers_length ys);
        built = record { answer = h.is ∙ b.answer; words = h.words ∙ b.words; entries = r ∙ b.entries };
      }
  accepting o e (emptied q r k) z n count = absurd (r.numbered z)

  refusing : (o : Res Program) → outcome R img (length c) (length (numbers_of ys)) ≡ o → Leaves img c a c' F T o → (a.refusal ≡ 0 → ⊥) → Built R img c (numbers_of ys) a c' (numbers_of (replicate (length ys) blank))
  refusing o e (left P h) z = absurd (z (ap (λ (x : Answer). x.refusal) h.is))
  refusing o e (emptied q r k) z =
      let b = refuses R img c (numbers_of ys) q e in
      record { answer = r.is ∙ b.answer; words = k ∙ b.words; entries = numbers_blank ys ∙ b.entries }

  -- what `work` says, at the room that the entries have
  abbrev pub Left : Type 0
  Left = (t : ℕ) → t / 3 ≡ length ys → Leaves img c a c' F T (outcome R img (length c) t)

  pub accepted : Left → a.refusal ≡ 0 → (n : ℕ) → (Tabled img T → n ≡ length (functions_in img)) → Fitting n
  accepted h = accepting (outcome R img (length c) (length (numbers_of ys))) refl (h (length (numbers_of ys)) (numbers_length ys))

  pub refused_one : Left → (a.refusal ≡ 0 → ⊥) → Built R img c (numbers_of ys) a c' (numbers_of (replicate (length ys) blank))
  refused_one h = refusing (outcome R img (length c) (length (numbers_of ys))) refl (h (length (numbers_of ys)) (numbers_length ys))
