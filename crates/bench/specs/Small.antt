-- The answers of the check and of the build in one number.
--     checked                       the check's three numbers: sound, faulty
--     small_check, small_build      they have room
-- Assumes nothing.
use Rattle.std.specs.Prelude.{◌≡◌, refl, Bool, true, false, List, ℕ, ◌/◌, ◌≤◌, ◌<◌, ltb, length}
use Rattle.std.proofs.Common.{arith}
use Rattle.rules.specs.declared.Answer.{Answer}
use Rattle.rules.specs.Seen.{Seen, Sound, Fault}
use Rattle.rules.specs.Check.{check_of}
use Rattle.rules.specs.Read.{contract_at}
use Rattle.rules.specs.Refusal.{Refusal, Res, ok, bad, ◌>>=◌, unless, answer, refused, number_of, place_of}
use Rattle.rules.specs.Emit.{Rules}
use Rattle.rules.specs.Link.{Program}
use Rattle.rules.specs.Build.{passed, analysed, program, fits, listed, outcome, program_answer, packed, build_of}
use Rattle.bounds.specs.Cuts.{cut}
use Rattle.bounds.specs.Said.{said_of}
use Rattle.bounds.proofs.Refused.{analysed_plain}
use Rattle.bounds.proofs.Programs.{program_bounded}
use Rattle.heights.proofs.Theorem.{as_many}
use Rattle.host.specs.Ends.{Small, small_refused, refusal_plain}

-- The check's answer as three numbers (01: What comes back).
unfoldable pub checked : Seen → Answer
checked (Sound q m) = answer 0 0 0
checked (Fault number place) = answer number place 0

pub sound : (img : List ℕ) (q m : ℕ) → check_of img ≡ Sound q m → 0 ≡ packed (checked (check_of img))
unfolding packed checked
sound img q m e = rw e refl

pub faulty : (img : List ℕ) (number place : ℕ) → check_of img ≡ Fault number place → packed (answer number place 0) ≡ packed (checked (check_of img))
unfolding checked
faulty img number place e = rw e refl

pub small_check : (img : List ℕ) (number place : ℕ) → check_of img ≡ Fault number place → Small (answer number place 0)
unfolding analysed passed ◌>>=◌ refused
small_check img number place e = small_refused (Refusal.fault number place) (said_of (analysed_plain img) (rw e refl))

pub small_build : (R : Rules) → R.free ≤ 30 → (img code table : List ℕ) → Small (build_of R img code table)
unfolding build_of outcome ◌>>=◌ fits listed unless program_answer refused number_of place_of
small_build R few img code table = by (program R img) refl
  where
    entries : (P : Program) (t : Bool) → length P.words < 1048576 → length P.table ≤ 256 → Small (program_answer (unless t (Refusal.no_table (length P.table)) P))
    entries P true w h = record { refusal = omega arith; place = omega arith; count = omega (arith, h) }
    entries P false w h = record { refusal = omega arith; place = omega arith; count = omega (arith, w) }

    words : (P : Program) (t : Bool) → length P.words < 1048576 → length P.table ≤ 256 → Small (program_answer (unless t (Refusal.no_room (length P.words)) P >>= λ Q. listed (length table) Q))
    words P true w h = record { refusal = omega arith; place = omega arith; count = omega (arith, w) }
    words P false w h = entries P (ltb (length table / 3) (length P.table)) w h

    by : (m : Res Program) → program R img ≡ m → Small (program_answer (m >>= λ P. fits (length code) P >>= λ Q. listed (length table) Q))
    by (ok P) e =
        let l : length P.table ≡ length (contract_at img).functions = as_many R img P e in
        words P (ltb (length code) (length P.words)) (program_bounded R few img P e).short (omega (arith, l, (cut img).functions))
    by (bad q) e = small_refused q (refusal_plain R img q e)
