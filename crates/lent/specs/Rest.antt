-- All of a lent buffer at exit: what was written, and the rest.
--     Rest n s s'      s has room for n elements, s' is as long as s, and past the first n it is s
--     rest_over        so it is where a list was laid over s
--     all_zero         what was cleared is zero throughout
-- Assumes nothing.
use Rattle.std.specs.Prelude.{◌≡◌, refl, List, [], ◌∷◌, ℕ, ◌≤◌, length, drop, replicate}
use Rattle.std.proofs.Common.{ap}
use Rattle.rules.specs.Lent.{over, cleared}
use Rattle.lent.specs.Over.{length_over}

-- 01: past the used entries as lent
pub record Rest {A : Type 0} (n : ℕ) (s s' : List A) : Type 0 where
  pub room : n ≤ length s
  pub long : length s' ≡ length s
  pub past : drop n s' ≡ drop n s

drop_over : {A : Type 0} (l s : List A) → drop (length l) (over l s) ≡ drop (length l) s
drop_over [] s = refl
drop_over (a ∷ l) [] = refl
drop_over (a ∷ l) (x ∷ s) = drop_over l s

pub rest_over : {A : Type 0} (l s : List A) → length l ≤ length s → Rest (length l) s (over l s)
rest_over l s h = record { room = h; long = length_over l s; past = drop_over l s }

pub all_zero : (s : List ℕ) → cleared s ≡ replicate (length s) 0
unfolding cleared
all_zero [] = refl
all_zero (x ∷ s) = ap {B = List ℕ} (λ r. 0 ∷ r) (all_zero s)
