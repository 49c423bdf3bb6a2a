-- What a text leaves behind (02: P1).
--     Room      the slice holds the text
--     Tells     number, place and count, and the slice at exit
-- Assumes nothing.
use Rattle.std.specs.Prelude.{◌≡◌, List, ℕ, ◌≤◌, length}
use Rattle.rules.specs.declared.Answer.{Answer}
use Rattle.rules.specs.Refusal.{Res}
use Rattle.rules.specs.Lent.{over}
use Rattle.rules.specs.Texts.{told_text, told_answer}

pub record Room {A : Type 0} (m : Res A) (s : List ℕ) : Type 0 where
  pub enough : length (told_text m) ≤ length s

pub record Tells {A : Type 0} (m : Res A) (s t : List ℕ) (a : Answer) : Type 0 where
  pub answers : a ≡ told_answer m
  pub lies : t ≡ over (told_text m) s
