-- How a build can end (01: What comes back): the room is looked at last, words before entries.
--     Built      the whole answer: three numbers and every entry of both slices
--     no_program, no_room, no_table, all_fits      what `outcome` is
--     refuses, accepts      what the answer is then
-- Assumes nothing.
use Rattle.std.specs.Prelude.{◌≡◌, List, ℕ, ◌/◌, ◌<◌, ◌≤◌, length}
use Rattle.std.proofs.Math.Path.{refl}
use borrow.Author.Tests.{lt-ltb, le-ltb}
use Rattle.rules.specs.declared.Answer.{Answer}
use Rattle.rules.specs.Refusal.{Refusal, ok, bad, ◌>>=◌, unless, answer, refused}
use Rattle.rules.specs.Emit.{Rules}
use Rattle.rules.specs.Link.{Program}
use Rattle.rules.specs.Lent.{over, cleared, spread}
use Rattle.rules.specs.Build.{program, fits, listed, outcome, program_answer, words_of, three_of, at_exit, build_of, code_of, table_of}

pub record Built (R : Rules) (img code table : List ℕ) (a : Answer) (code' table' : List ℕ) : Type 0 where
  pub answer : a ≡ build_of R img code table
  pub words : code' ≡ code_of R img code table
  pub entries : table' ≡ table_of R img code table

module _ (R : Rules) (img : List ℕ) (n t : ℕ) where
  pub no_program : (q : Refusal) → program R img ≡ bad q → outcome R img n t ≡ bad q
  unfolding outcome ◌>>=◌
  no_program q e = rw e refl

  pub no_room : (P : Program) → program R img ≡ ok P → n < length P.words → outcome R img n t ≡ bad (Refusal.no_room (length P.words))
  unfolding outcome ◌>>=◌ fits unless
  no_room P e h = rw (e, lt-ltb _ _ h) refl

  pub no_table : (P : Program) → program R img ≡ ok P → length P.words ≤ n → t / 3 < length P.table → outcome R img n t ≡ bad (Refusal.no_table (length P.table))
  unfolding outcome ◌>>=◌ fits listed unless
  no_table P e g h = rw (e, le-ltb _ _ g, lt-ltb _ _ h) refl

  pub all_fits : (P : Program) → program R img ≡ ok P → length P.words ≤ n → length P.table ≤ t / 3 → outcome R img n t ≡ ok P
  unfolding outcome ◌>>=◌ fits listed unless
  all_fits P e g h = rw (e, le-ltb _ _ g, le-ltb _ _ h) refl

module _ (R : Rules) (img code table : List ℕ) where
  pub refuses : (q : Refusal) → outcome R img (length code) (length table) ≡ bad q → Built R img code table (refused q) (cleared code) (cleared table)
  unfolding build_of code_of table_of program_answer at_exit
  refuses q e = record { answer = rw e refl; words = rw e refl; entries = rw e refl }

  pub accepts : (P : Program) → outcome R img (length code) (length table) ≡ ok P
      → Built R img code table (answer 0 0 (length P.words)) (over (words_of P) code) (over (spread three_of P.table) table)
  unfolding build_of code_of table_of program_answer at_exit
  accepts P e = record { answer = rw e refl; words = rw e refl; entries = rw e refl }
