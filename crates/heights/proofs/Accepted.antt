-- Nothing but acceptance answers 0; and what acceptance says of the room.
-- Assumes nothing.
use Rattle.std.specs.Prelude.{◌≡◌, refl, Bool, true, false, List, ℕ, ◌/◌, ◌≤◌, ltb, length}
use Rattle.std.proofs.Common.{arith, ltb-false}
use Rattle.rules.specs.Refusal.{Refusal, Res, ok, ◌>>=◌, unless, refused, number_of}
use Rattle.rules.specs.Emit.{Rules}
use Rattle.rules.specs.Link.{Program}
use Rattle.rules.specs.Build.{program, fits, listed, outcome, program_answer, build_of}
use Rattle.bounds.specs.Said.{Said, said_ok, said_bad, Any}
use Rattle.bounds.specs.Refused.{Plain}
use Rattle.bounds.proofs.Refused.{program_plain}
use Rattle.heights.specs.Accepted.{Fitting}

-- A build that answers 0 has a program.
pub accepted : (R : Rules) (img code table : List ℕ) → (build_of R img code table).refusal ≡ 0
    → (P : Program) × (outcome R img (length code) (length table) ≡ ok P) × Fitting R img (length code) (length table) P
unfolding build_of program_answer outcome fits listed unless ◌>>=◌ number_of refused
accepted R img code table z = by-program (program R img) refl (program_plain R img) z
  where
    n : ℕ
    n = length code

    t : ℕ
    t = length table

    by-table : (P : Program) → program R img ≡ ok P → length P.words ≤ n → (b : Bool) → ltb (t / 3) (length P.table) ≡ b
        → (program_answer (unless b (Refusal.no_table (length P.table)) P)).refusal ≡ 0 → (unless b (Refusal.no_table (length P.table)) P ≡ ok P) × Fitting R img n t P
    by-table P e w true h z = absurd (omega (arith, z))
    by-table P e w false h z = (refl, record { is = e; words = w; table = ltb-false _ _ h })

    by-room : (P : Program) → program R img ≡ ok P → (b : Bool) → ltb n (length P.words) ≡ b
        → (program_answer (unless b (Refusal.no_room (length P.words)) P >>= listed t)).refusal ≡ 0 → (unless b (Refusal.no_room (length P.words)) P >>= listed t ≡ ok P) × Fitting R img n t P
    by-room P e true h z = absurd (omega (arith, z))
    by-room P e false h z = by-table P e (ltb-false _ _ h) (ltb (t / 3) (length P.table)) refl z

    by-program : (m : Res Program) → program R img ≡ m → Said Plain (Any Program) m → (program_answer (m >>= λ P. fits n P >>= listed t)).refusal ≡ 0
        → (P : Program) × ((m >>= λ P. fits n P >>= listed t) ≡ ok P) × Fitting R img n t P
    by-program m e (said_ok P u) z = let r = by-room P e (ltb n (length P.words)) refl z in (P, r.0, r.1)
    by-program m e (said_bad r h) z = absurd (omega (arith, h.some, z))
