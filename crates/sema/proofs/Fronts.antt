-- What the front's answers come to.
--     faulted, passed_fine, passed_unfit      the check, and analysis behind it
--     kept, looked, spot_at, spot_none      what was refused is handed on; else 30 is asked
--     judged_by      both
--     image_told, analysis_told, ambiguous_told      the answer at the edge
-- Assumes nothing.
use Rattle.std.specs.Prelude.{None, Option, Some, Result, Ok, Err, IsErrAnd, MatchResult}
use mathlib.Core.Path.{◌≡◌, refl, sym}
use mathlib.Core.List.{List}
use Prim.Native.Nat.{ℕ}
use native.Mathlib.Omega.{arith}
use Rattle.rules.specs.declared.Answer.{Answer}
use Rattle.rules.specs.Seen.{Fault}
use Rattle.rules.specs.Check.{check_of}
use Rattle.rules.specs.Read.{contract_at}
use Rattle.rules.specs.Refusal.{ok, bad, ◌>>=◌, answer, refused}
use Rattle.rules.specs.Analyse.{analyse}
use Rattle.rules.specs.Ambiguous.{first_ambiguous_lem}
use Rattle.rules.specs.Build.{passed, clear, analysed, judged}
use Rattle.rules.specs.Meant.{accesses}
use Rattle.tables.specs.Listed.{Tabled}
use Rattle.notes.specs.Notes.{written, Blank, Wrote}
use Rattle.notes.specs.Left.{noted_all}
use Rattle.lookup.specs.declared.Fault as code
use Rattle.lookup.specs.Answers.{fault_of, checked_of}
use Rattle.lookup.specs.Results.{handed_on, then_ok, then_bad}
use Rattle.sema.specs.declared.front.Refused.{Refused}
use Rattle.sema.specs.declared.front.Refused.TheVariants as is
use Rattle.sema.specs.Entry.{Passed}
use Rattle.sema.specs.Front.{refused_of, Judged, judged_of, spotted, Judges}
use Rattle.sema.proofs.Functions.{sound_in}

module _ (img t N : List ℕ) where
  pub faulted : {n p : ℕ} → check_of img ≡ Fault n p → Judges img (analysed img) t N (Err (is.Image n p))
  unfolding judged_of refused_of analysed passed ◌>>=◌
  faulted h = record { answers = rw h refl; ready = λ e. absurd (let z : ◌≡◌ {A = ℕ} 0 1 = cc in omega arith) }

  pub passed_fine : (N₀ : List ℕ) → Passed img → Blank N₀ → Tabled img t → ok tt ≡ analyse (contract_at img) → N ≡ written (contract_at img) N₀ (accesses (contract_at img)) → Judges img (analysed img) t N (Ok tt)
  unfolding judged_of analysed ◌>>=◌
  passed_fine N₀ p z l q h =
      let s = sound_in (check_of img) p in
      record { answers = rw (p, ← q) refl; ready = λ e. ((l, rw h (noted_all img s.0 s.1 s.2 (sym q) N₀ z)), p) }

  pub passed_unfit : Passed img → (f : code.Fault) → bad (fault_of img f) ≡ analyse (contract_at img) → Judges img (analysed img) t N (Err (is.Analysis f))
  unfolding judged_of refused_of analysed ◌>>=◌
  passed_unfit p f q = record { answers = rw (p, ← q) refl; ready = λ e. absurd (let z : ◌≡◌ {A = ℕ} 0 1 = cc in omega arith) }

  pub judged_by : (N₀ : List ℕ) → Passed img → Blank N₀ → Tabled img t → (r : Result (Unit {0}) code.Fault) (s : Judged) → MatchResult r (λ x. s ≡ Ok x) (λ e. IsErrAnd s (λ y. y ≡ is.Analysis e))
      → checked_of img r ≡ analyse (contract_at img) → Wrote (contract_at img) N₀ N (accesses (contract_at img)) (checked_of img r) → Judges img (analysed img) t N s
  unfolding checked_of
  judged_by N₀ p z l (Ok u) s m q w = rw m (passed_fine N₀ p z l q (w.all tt refl))
  judged_by N₀ p z l (Err f) s m q w = rw (handed_on s _ m) (passed_unfit p f q)

  pub kept : (r : Refused) → Judges img (analysed img) t N (Err r) → Judges img (judged img) t N (Err r)
  unfolding judged_of judged
  kept r j = record { answers = then_bad _ j.answers; ready = λ e. absurd (let z : ◌≡◌ {A = ℕ} 0 1 = cc in omega arith) }

  -- 30, of the contract that was analysed
  row_30 : (o : Option ℕ) → judged_of img (spotted o) ≡ (clear o >>= λ u. ok (contract_at img))
  unfolding judged_of refused_of spotted clear ◌>>=◌
  row_30 None = refl
  row_30 (Some p) = refl

  pub looked : {s : Judged} → Judges img (analysed img) t N (Ok tt) → s ≡ spotted (first_ambiguous_lem (contract_at img)) → Judges img (judged img) t N s
  unfolding judged judged_of
  looked {s} j e = rw e (record { answers = then_ok _ j.answers (row_30 (first_ambiguous_lem (contract_at img))); ready = λ g. j.ready refl })

-- where 30 is, or none
module _ {o : Option ℕ} where
  pub spot_at : {p : ℕ} → Some p ≡ o → Err (is.Ambiguous p) ≡ spotted o
  unfolding spotted
  spot_at h = rw (← h) refl

  pub spot_none : None ≡ o → Ok tt ≡ spotted o
  unfolding spotted
  spot_none h = rw (← h) refl

module _ (img : List ℕ) {r : Refused} {a : Answer} where
  pub image_told : {n p : ℕ} → r ≡ is.Image n p → a ≡ answer n p 0 → a ≡ refused (refused_of img r)
  unfolding refused_of refused
  image_told e h = rw e h

  pub analysis_told : {f : code.Fault} → r ≡ is.Analysis f → a ≡ refused (fault_of img f) → a ≡ refused (refused_of img r)
  unfolding refused_of
  analysis_told e h = rw e h

  pub ambiguous_told : {p : ℕ} → r ≡ is.Ambiguous p → a ≡ answer 30 p 0 → a ≡ refused (refused_of img r)
  unfolding refused_of refused
  ambiguous_told e h = rw e h
