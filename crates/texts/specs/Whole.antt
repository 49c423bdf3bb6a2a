-- The clauses of the request (02: P1), of the answer and the slice that `text` leaves.
--     short            52: nothing else is looked at
--     as_built         number and place are the build's, where that does not come to the room
--     unchanged        with 0, 1 to 7 and 30 there is no text
--     rest_lent        past the text the slice is as lent
-- Assumes nothing.
use Rattle.std.specs.Prelude.{◌≡◌, Bool, ℕ, ◌/◌, ◌≤◌, ◌<◌, ltb, length}
use Rattle.std.proofs.Math.Path.{refl}
use Rattle.std.proofs.Math.Bool.{true, false}
use mathlib.Core.List.{List, []}
use Rattle.std.proofs.Common.{arith, lt-ltb, le-ltb}
use Rattle.rules.specs.Bytes.{pick}
use Rattle.rules.specs.Refusal.{Refusal, Res, ok, bad, ◌>>=◌, unless, answer, refused, number_of, place_of}
use Rattle.rules.specs.Link.{Program}
use Rattle.rules.specs.Lent.{over}
use Rattle.rules.specs.Build.{rules, program, fits, listed, outcome, program_answer, build_of}
use Rattle.rules.specs.Texts.{text_of, told_text, told_answer, text_answer, text_bytes}
use Rattle.bounds.specs.Said.{said_of}
use Rattle.bounds.proofs.Texts.{texts_fit}
use Rattle.lent.specs.Rest.{Rest, rest_over}

-- Only 10 to 47 but 30 have a text: a number is 30 if it is 10 or more.
silent : (r : Refusal) → (10 ≤ number_of r → number_of r ≡ 30) → text_of r ≡ []
unfolding text_of number_of refused
silent (Refusal.fault n p) h = refl
silent (Refusal.ambiguous p) h = refl
silent (Refusal.no_room k) h = refl
silent (Refusal.no_table k) h = refl
silent (Refusal.undefined_name p x) h = absurd (omega (arith, h (omega arith)))
silent (Refusal.undefined_target p x) h = absurd (omega (arith, h (omega arith)))
silent (Refusal.assign_type p a b) h = absurd (omega (arith, h (omega arith)))
silent (Refusal.return_type p a b) h = absurd (omega (arith, h (omega arith)))
silent (Refusal.no_field p s x) h = absurd (omega (arith, h (omega arith)))
silent (Refusal.not_struct p) h = absurd (omega (arith, h (omega arith)))
silent (Refusal.init_type p x) h = absurd (omega (arith, h (omega arith)))
silent (Refusal.init_field p x) h = absurd (omega (arith, h (omega arith)))
silent (Refusal.no_struct p x) h = absurd (omega (arith, h (omega arith)))
silent (Refusal.arg_count p f a b) h = absurd (omega (arith, h (omega arith)))
silent (Refusal.arg_type p i f) h = absurd (omega (arith, h (omega arith)))
silent (Refusal.no_function p f) h = absurd (omega (arith, h (omega arith)))
silent (Refusal.operands p) h = absurd (omega (arith, h (omega arith)))
silent Refusal.no_main h = absurd (omega (arith, h (omega arith)))
silent (Refusal.exhausted p) h = absurd (omega (arith, h (omega arith)))
silent (Refusal.unread p x) h = absurd (omega (arith, h (omega arith)))
silent (Refusal.unassigned p x) h = absurd (omega (arith, h (omega arith)))
silent (Refusal.storage_unwritten p x) h = absurd (omega (arith, h (omega arith)))
silent (Refusal.mapping_unwritten p x) h = absurd (omega (arith, h (omega arith)))
silent (Refusal.storage_unread p x) h = absurd (omega (arith, h (omega arith)))
silent (Refusal.mapping_unread p x) h = absurd (omega (arith, h (omega arith)))

module _ (img s : List ℕ) where
  pub short : length s < 256 → (text_answer img s ≡ answer 52 0 0) × (text_bytes img s ≡ s)
  unfolding text_answer text_bytes pick
  short h = rw (lt-ltb _ _ h) (refl, refl)

  module _ (long : 256 ≤ length s) where
    answered : text_answer img s ≡ told_answer (program rules img)
    unfolding text_answer pick
    answered = rw (le-ltb _ _ long) refl

    written : text_bytes img s ≡ over (told_text (program rules img)) s
    unfolding text_bytes pick
    written = rw (le-ltb _ _ long) refl

    pub unchanged : (10 ≤ (text_answer img s).refusal → (text_answer img s).refusal ≡ 30) → ((text_answer img s).count ≡ 0) × (text_bytes img s ≡ s)
    unfolding told_answer told_text
    unchanged h = rw (answered, written) (by (program rules img) (rw answered at h))
      where
        by : (m : Res Program) → (10 ≤ (told_answer m).refusal → (told_answer m).refusal ≡ 30) → ((told_answer m).count ≡ 0) × (over (told_text m) s ≡ s)
        by (ok P) h = (refl, refl)
        by (bad r) h = rw (silent r h) (refl, refl)

    pub rest_lent : Rest (text_answer img s).count s (text_bytes img s)
    unfolding told_answer told_text
    rest_lent = rw (answered, written) (by (program rules img) refl)
      where
        by : (m : Res Program) → program rules img ≡ m → Rest (told_answer m).count s (over (told_text m) s)
        by (ok P) e = rest_over [] s (omega arith)
        by (bad r) e = rest_over (text_of r) s (omega (arith, long, said_of (texts_fit rules img) e))

    pub as_built : (code table : List ℕ) → ((build_of rules img code table).refusal ≡ 50 → ⊥) → ((build_of rules img code table).refusal ≡ 51 → ⊥)
        → ((text_answer img s).refusal ≡ (build_of rules img code table).refusal) × ((text_answer img s).place ≡ (build_of rules img code table).place)
    unfolding build_of outcome program_answer told_answer fits listed unless ◌>>=◌ number_of place_of refused
    as_built code table g h = rw answered (by (program rules img) g h)
      where
        entries : (P : Program) (b : Bool) → ((program_answer (unless b (Refusal.no_table (length P.table)) P)).refusal ≡ 51 → ⊥)
            → (0 ≡ (program_answer (unless b (Refusal.no_table (length P.table)) P)).refusal) × (0 ≡ (program_answer (unless b (Refusal.no_table (length P.table)) P)).place)
        entries P true h = absurd (h refl)
        entries P false h = (refl, refl)

        words : (P : Program) (b : Bool) → ((program_answer (unless b (Refusal.no_room (length P.words)) P >>= listed (length table))).refusal ≡ 50 → ⊥)
            → ((program_answer (unless b (Refusal.no_room (length P.words)) P >>= listed (length table))).refusal ≡ 51 → ⊥)
            → (0 ≡ (program_answer (unless b (Refusal.no_room (length P.words)) P >>= listed (length table))).refusal)
            × (0 ≡ (program_answer (unless b (Refusal.no_room (length P.words)) P >>= listed (length table))).place)
        words P true g h = absurd (g refl)
        words P false g h = entries P (ltb (length table / 3) (length P.table)) h

        by : (m : Res Program) → ((program_answer (m >>= λ P. fits (length code) P >>= listed (length table))).refusal ≡ 50 → ⊥)
            → ((program_answer (m >>= λ P. fits (length code) P >>= listed (length table))).refusal ≡ 51 → ⊥)
            → ((told_answer m).refusal ≡ (program_answer (m >>= λ P. fits (length code) P >>= listed (length table))).refusal)
            × ((told_answer m).place ≡ (program_answer (m >>= λ P. fits (length code) P >>= listed (length table))).place)
        by (ok P) g h = words P (ltb (length code) (length P.words)) g h
        by (bad r) g h = (refl, refl)
