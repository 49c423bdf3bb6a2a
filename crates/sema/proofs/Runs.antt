-- How the steps of statements are put together.
use Rattle.std.specs.Prelude.{Err, Ok, Result}
use mathlib.Core.Bool.{Bool, true, false}
use mathlib.Core.List.{List, [], ◌++◌}
use mathlib.Core.Path.{◌≡◌, refl, sym, ap, ◌∙◌}
use Prim.Native.Nat.{ℕ, ◌+◌, ◌*◌, ◌≤◌, ◌<◌}
use native.Mathlib.Omega.{arith}
use lib.ListN.{get_or}
use Rattle.rules.specs.Bytes.{name_at}
use Rattle.rules.specs.Types.{Env, with_name}
use Rattle.rules.specs.Refusal.{Refusal, Res, ok, bad, ◌>>=◌, unless}
use Rattle.rules.specs.Meant.{Access, behind}
use Rattle.rules.specs.Read.{contract_at}
use Rattle.notes.specs.Notes.{written}
use Rattle.notes.specs.Wrote.{refused, wrote, none_written, in_turn, behind_answer}
use Rattle.lookup.specs.declared.Ty.{Ty}
use Rattle.lookup.specs.declared.Fault.{Fault}
use Rattle.lookup.specs.Answers.{ty_of, fault_of, env_of}
use Rattle.lookup.specs.Scope.{Pushed, env_frame}
use Rattle.lookup.specs.Results.{then_bad}
use Rattle.sema.specs.Steps.{after_of, Within, Stepped}

-- the array stays as it is, the notes of some accesses are written
pub still_noted : {img e N N' : List ℕ} {top m : ℕ} {o : Res Env} {l : List Access} → ok (env_of img e top) ≡ o → N' ≡ written (contract_at img) N l → Stepped img e e N N' top m (Ok top) o l
unfolding after_of Within
still_noted h g = record { answer = h; within = (omega arith, omega arith); kept = λ i l. refl; size = refl; notes = wrote _ _ g }

-- and all stays
pub still_ok : {img e N : List ℕ} {top m : ℕ} {o : Res Env} → ok (env_of img e top) ≡ o → Stepped img e e N N top m (Ok top) o []
unfolding after_of Within
still_ok h = record { answer = h; within = (omega arith, omega arith); kept = λ i l. refl; size = refl; notes = none_written _ _ _ }

pub still_bad : {img e N N' : List ℕ} {top m : ℕ} {f : Fault} {o : Res Env} {l : List Access} → bad (fault_of img f) ≡ o → Stepped img e e N N' top m (Err f) o l
unfolding after_of Within
still_bad h = record { answer = h; within = tt; kept = λ i l. refl; size = refl; notes = refused _ _ _ refl }

-- behind what notes nothing
pub behind_ok : {A : Type 0} {img e e' N N' : List ℕ} {top m : ℕ} {r : Result ℕ Fault} {E : Res A} {a : A} {l : List Access} (K : A → Res Env) → ok a ≡ E → Stepped img e e' N N' top m r (K a) l
    → Stepped img e e' N N' top m r (E >>= K) l
unfolding ◌>>=◌
behind_ok K h s = rw (← h) s

-- behind an expression, with the notes of its accesses l: more is noted; nothing more is
module _ {A : Type 0} {img e N N₁ : List ℕ} {top m : ℕ} {E : Res A} {a : A} (l : List Access) (K : A → Res Env) (h : ok a ≡ E) (w : N₁ ≡ written (contract_at img) N l) where
  pub first_ok : {e' N' : List ℕ} {r : Result ℕ Fault} {k : List Access} → Stepped img e e' N₁ N' top m r (K a) k → Stepped img e e' N N' top m r (E >>= K) (l ++ k)
  first_ok s =
      let c = behind_ok K h s in
      record { answer = c.answer; within = c.within; kept = c.kept; size = c.size; notes = record { all = λ Δ g. in_turn _ _ _ _ w (s.notes.all Δ g) } }

  pub last_ok : {e' : List ℕ} {r : Result ℕ Fault} → Stepped img e e' N₁ N₁ top m r (K a) [] → Stepped img e e' N N₁ top m r (E >>= K) l
  last_ok s =
      let c = behind_ok K h s in
      record { answer = c.answer; within = c.within; kept = c.kept; size = c.size; notes = wrote _ _ w }

pub first_bad : {A : Type 0} {img e N N' : List ℕ} {top m : ℕ} {f : Fault} {E : Res A} {l : List Access} (K : A → Res Env) → bad (fault_of img f) ≡ E → Stepped img e e N N' top m (Err f) (E >>= K) l
first_bad K h = still_bad (then_bad K h)

-- behind a test
pub fit_ok : {A : Type 0} (b : Bool) (r : Refusal) (a : A) → ◌≡◌ {A = Res (Unit {0})} (ok tt) (unless b r tt) → ok a ≡ unless b r a
unfolding unless
fit_ok true r a h = absurd (let z : ◌≡◌ {A = ℕ} 0 1 = cc in omega arith)
fit_ok false r a h = refl

pub fit_bad : {A : Type 0} (b : Bool) (r : Refusal) {q : Refusal} (a : A) → ◌≡◌ {A = Res (Unit {0})} (bad q) (unless b r tt) → bad q ≡ unless b r a
unfolding unless
fit_bad true r a h = cc
fit_bad false r a h = absurd (let z : ◌≡◌ {A = ℕ} 0 1 = cc in omega arith)

within_chain : (a b c d : ℕ) (r : Result ℕ Fault) → a ≤ b → c ≤ d → Within b c r → Within a d r
unfolding Within
within_chain a b c d (Ok k) h l w = (omega arith, omega arith)
within_chain a b c d (Err f) h l w = tt

-- behind a statement
module _ {img e e1 N N₁ : List ℕ} {top m : ℕ} {r : Result ℕ Fault} {o : Res Env} {l : List Access} (p : Stepped img e e1 N N₁ top m r o l) where
  pub in_top : {k : ℕ} → r ≡ Ok k → (top ≤ k) × (k ≤ top + 2 * m)
  unfolding Within
  in_top q = rw q at p.within

  pub answered : {k : ℕ} → r ≡ Ok k → ok (env_of img e1 k) ≡ o
  unfolding after_of
  answered q = sym (ap (after_of img e1) q) ∙ p.answer

  pub stopped : {f : Fault} → r ≡ Err f → bad (fault_of img f) ≡ o
  unfolding after_of
  stopped q = sym (ap (after_of img e1) q) ∙ p.answer

  pub told : {k : ℕ} → r ≡ Ok k → N₁ ≡ written (contract_at img) N l
  unfolding after_of
  told {k} q = p.notes.all (env_of img e1 k) (ap (after_of img e1) q)

  pub step_then : {e2 N₂ : List ℕ} {n k : ℕ} {r2 : Result ℕ Fault} (K : Env → Res Env) (L : Env → List Access) → r ≡ Ok k → Stepped img e1 e2 N₁ N₂ k n r2 (K (env_of img e1 k)) (L (env_of img e1 k))
      → Stepped img e e2 N N₂ top (m + n) r2 (o >>= K) (l ++ behind o L)
  unfolding ◌>>=◌
  step_then {e2} {N₂} {n} {k} {r2} K L q s =
      let w = in_top q in
      record {
        answer = rw (← answered q) s.answer;
        within = within_chain top k (k + 2 * n) (top + 2 * (m + n)) r2 w.0 (omega (arith, w.1)) s.within;
        kept = λ i l. s.kept i (omega (arith, w.0)) ∙ p.kept i l;
        size = s.size ∙ p.size;
        notes = record { all = λ Δ h. in_turn _ _ _ _ (told q) (s.notes.all Δ h ∙ ap (written (contract_at img) N₁) (sym (behind_answer L (answered q)))) };
      }

  pub step_bad : {n : ℕ} {f : Fault} {k : List Access} (K : Env → Res Env) → r ≡ Err f → Stepped img e e1 N N₁ top n r (o >>= K) k
  unfolding after_of Within
  step_bad K q = rw q (record { answer = then_bad K (stopped q); within = tt; kept = p.kept; size = p.size; notes = refused _ _ _ refl })

-- behind a name that was added
module _ {img e e1 : List ℕ} {top x k0 : ℕ} {t : Ty} (p : Pushed img e e1 top x t k0) where
  pub push_step : {N : List ℕ} → Stepped img e e1 N N top 1 (Ok k0) (ok (with_name (name_at img x) (ty_of img t) (env_of img e top))) []
  unfolding after_of Within
  push_step = record { answer = rw p.next (ap ok p.more); within = (omega (arith, p.next), omega (arith, p.next)); kept = p.kept; size = p.size; notes = none_written _ _ _ }

  -- a For goes back to its mark
  module _ {e2 N N₁ : List ℕ} {m : ℕ} {r : Result ℕ Fault} {o : Res Env} {l : List Access} (s : Stepped img e1 e2 N N₁ k0 m r o l) where
    low : (i : ℕ) → i < top → get_or e2 i 0 ≡ get_or e i 0
    low i l = s.kept i (omega (arith, p.next)) ∙ p.kept i l

    pub for_done : {k n : ℕ} → r ≡ Ok k → Stepped img e e2 N N₁ top n (Ok top) (o >>= λ Δ. ok (env_of img e top)) l
    unfolding ◌>>=◌ after_of Within
    for_done q = record {
      answer = rw (← answered s q) (ap ok (env_frame img e e2 top low));
      within = (omega arith, omega arith);
      kept = low;
      size = s.size ∙ p.size;
      notes = wrote _ _ (told s q);
    }

    pub for_bad : {n : ℕ} {f : Fault} → r ≡ Err f → Stepped img e e2 N N₁ top n r (o >>= λ Δ. ok (env_of img e top)) l
    unfolding after_of Within
    for_bad q = rw q (record { answer = then_bad _ (stopped s q); within = tt; kept = low; size = s.size ∙ p.size; notes = refused _ _ _ refl })
