-- The notes of accesses, a step at a time: nothing is asked of them at a refusal.
-- Assumes nothing.
use Rattle.std.specs.Prelude.{List, [], ◌++◌, ◌≡◌, refl, ℕ, zero, suc, get_or, replicate}
use Rattle.std.proofs.Common.{sym, ap, ◌∙◌}
use Rattle.std.proofs.lemmas.List.{length-replicate}
use Rattle.rules.specs.Tree.{Contract}
use Rattle.rules.specs.Refusal.{Refusal, Res, ok, bad}
use Rattle.rules.specs.Meant.{Access, behind}
use Rattle.before.specs.Meant.{bad_ok}
use Rattle.notes.specs.Notes.{written, Blank, Wrote}
use Rattle.notes.specs.Left.{written_append}

module _ {A : Type 0} (C : Contract) {N N' : List ℕ} {l : List Access} where
  -- a refusal
  pub refused : (m : Res A) (r : Refusal) → bad r ≡ m → Wrote C N N' l m
  refused m r e = record { all = λ a h. bad_ok r a (e ∙ h) }

  -- they are written
  pub wrote : (m : Res A) → N' ≡ written C N l → Wrote C N N' l m
  wrote m e = record { all = λ a h. e }

  -- there was an answer
  pub was : {m : Res A} (a : A) → Wrote C N N' l m → m ≡ ok a → N' ≡ written C N l
  was a w e = w.all a e

-- no access
pub none_written : {A : Type 0} (C : Contract) (N : List ℕ) (m : Res A) → Wrote C N N [] m
unfolding written
none_written C N m = record { all = λ a h. refl }

-- first some, then others
pub in_turn : (C : Contract) (N : List ℕ) {N₁ N₂ : List ℕ} (l k : List Access) → N₁ ≡ written C N l → N₂ ≡ written C N₁ k → N₂ ≡ written C N (l ++ k)
in_turn C N l k e h = h ∙ ap (λ M. written C M k) e ∙ sym (written_append C N l k)

-- those behind an answer
pub behind_answer : {A : Type 0} {m : Res A} {a : A} (f : A → List Access) → ok a ≡ m → behind m f ≡ f a
unfolding behind
behind_answer f e = rw (← e)

-- before the first: the bytes are 0
zeros : (n i : ℕ) → get_or {A = ℕ} (replicate n 0) i 0 ≡ 0
zeros zero i = refl
zeros (suc n) zero = refl
zeros (suc n) (suc i) = zeros n i

pub blank : Blank (replicate 21846 0)
blank = (length-replicate {A = ℕ} 21846 0, zeros 21846)
