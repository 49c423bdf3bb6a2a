-- 02: P2: contracts built before keep their words. And demand 2's domain stays as it was: on every image that the old rule did not answer with
-- 30, the whole answer is the old one, refusals too.
-- Assumes nothing.
use Rattle.std.specs.Prelude.{◌≡◌, refl, List, ℕ, None, Option, Some}
use Rattle.std.proofs.Common.{sym, ap, ◌∙◌}
use Rattle.rules.specs.Tables.{last}
use Rattle.rules.specs.Tree.{Function, Contract}
use Rattle.rules.specs.Refusal.{Refusal, Res, ok, bad, ◌>>=◌}
use Rattle.rules.specs.Builtins.{main}
use Rattle.rules.specs.Ambiguous.{first_ambiguous_lem}
use Rattle.rules.specs.Emit.{Rules}
use Rattle.rules.specs.Link.{Program, with_main, generate}
use Rattle.rules.specs.Build.{clear, analysed, judged, program}
use Rattle.before.specs.Old.{first_before, generate_before, judged_before, program_before}
use Rattle.before.specs.Meant.{bad_ok}
use Rattle.before.specs.Same.{in_turn, functions_clear, functions_same}

-- A contract with no ambiguous access in the old sense: no 30,
pub none_now : (C : Contract) → first_before C ≡ None → first_ambiguous_lem C ≡ None
unfolding first_before first_ambiguous_lem
none_now C h = functions_clear C C.functions h

-- and generation gives what it gave, whatever the rules.
pub generated_same : (R : Rules) (C : Contract) → first_before C ≡ None → generate R C ≡ generate_before R C
unfolding first_before generate generate_before
generated_same R C h = ap (with_main (last (λ (f : Function). f.name) main C.functions)) (in_turn (functions_same C R C.functions h 3) (λ b. refl))

-- Behind analysis.
behind : (R : Rules) (C : Contract) (o : Option ℕ) → first_before C ≡ o → ((q : ℕ) → ((clear o >>= λ u. ok C) >>= generate_before R) ≡ bad (Refusal.ambiguous q) → ⊥)
    → ((clear (first_ambiguous_lem C) >>= λ u. ok C) >>= generate R) ≡ ((clear o >>= λ u. ok C) >>= generate_before R)
unfolding clear ◌>>=◌
behind R C (Some q) e h = absurd (h q refl)
behind R C None e h = rw (none_now C e) (generated_same R C e)

-- 02: P2: the domain of demand 2: what was not 30 is what it was.
pub same_answers : (R : Rules) (img : List ℕ) → ((q : ℕ) → program_before R img ≡ bad (Refusal.ambiguous q) → ⊥) → program R img ≡ program_before R img
unfolding program program_before judged judged_before ◌>>=◌
same_answers R img h = by (analysed img) h
  where
    by : (m : Res Contract) → ((q : ℕ) → ((m >>= λ C. clear (first_before C) >>= λ u. ok C) >>= generate_before R) ≡ bad (Refusal.ambiguous q) → ⊥)
        → ((m >>= λ C. clear (first_ambiguous_lem C) >>= λ u. ok C) >>= generate R) ≡ ((m >>= λ C. clear (first_before C) >>= λ u. ok C) >>= generate_before R)
    by (ok C) g = behind R C (first_before C) refl g
    by (bad r) g = refl

-- 02: P2: what was built is built, with the same words and the same table.
pub built_before : (R : Rules) (img : List ℕ) (P : Program) → program_before R img ≡ ok P → program R img ≡ ok P
built_before R img P e = same_answers R img (λ q z. bad_ok (Refusal.ambiguous q) P (sym z ∙ e)) ∙ e
