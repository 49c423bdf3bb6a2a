-- The law minds no dead code: it holds of a function with nonsense behind its Return.
-- Assumes nothing.
use Rattle.std.specs.Prelude.{refl, ℕ, zero, suc, ◌≤◌, ◌<◌}
use Rattle.std.proofs.Common.{sym, ap, arith}
use Rattle.rules.specs.Machine.{Word, At, kind, Heights}
use Rattle.rules.specs.Link.{patch, link}
use Rattle.heights.specs.Positions.{at_one, at_short}
use Rattle.heights.specs.Entries.{Covers, apart}
use Rattle.heights.specs.Certificate.{Right}
use Rattle.heights.specs.Examples.{walked, called, table, around, dead_code, met}
use Rattle.heights.proofs.Certificate.{heights}

-- It obeys the law.
pub dead_code_passes : Heights (around dead_code) table walked
unfolding around dead_code link patch walked called Covers
dead_code_passes = heights (around dead_code) table (apart 0 24 table (refl, omega arith, (refl, omega arith, refl))) walked (At met)
    (record { inside = inside; single = λ i x y. at_one met i x y; begins = refl; right = right })
  where
    inside : (i x : ℕ) → At met i x → (walked.first ≤ i) × (i < walked.past)
    inside i x h = omega (arith, at_short met i x h)

    right : (i x : ℕ) → At met i x → (w : Word) × At (around dead_code) i w × Right table (At met) i x w.imm (kind w.op)
    right zero x h = (_, refl, (0, h, refl))
    right (suc zero) x h = (_, refl, ap suc h)
    right (suc (suc zero)) x h = (_, refl, (0, h, refl))
    right (suc (suc (suc zero))) x h = (_, refl, h)
    right (suc (suc (suc (suc zero)))) x h = (_, refl, ap suc h)
    right (suc (suc (suc (suc (suc zero))))) x h = (_, refl, ap suc h)
    right (suc (suc (suc (suc (suc (suc zero)))))) x h = (_, refl, sym h)
    right (suc (suc (suc (suc (suc (suc (suc i))))))) x h = absurd h
