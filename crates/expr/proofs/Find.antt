-- The search of a scope, a name at a time, from the newest.
--     find_hit        the key and the name are x's
--     skip_name, skip_key     another name; another key, so another name, or one that does not count
--     find_none       no name is left
-- Assumes nothing.
use Rattle.std.specs.Prelude.{None, Some}
use mathlib.Core.Path.{◌≡◌, refl, sym, ap, ◌∙◌}
use mathlib.Core.Bool.{Bool, true, false}
use mathlib.Core.List.{List}
use Prim.Native.Nat.{ℕ, zero, suc, ◌+◌, ◌-◌, ◌*◌}
use native.Mathlib.Numerals.{sub-one}
use native.Mathlib.Omega.{arith}
use lib.Dec.{eqb}
use lib.ListN.{get_or}
use borrow.Author.Tests.{eq-eqb, eqb-true}
use Rattle.rules.specs.Bytes.{pick, Name, eq_name}
use Rattle.rules.specs.Emit.{Scope, with_name, find}
use Rattle.records.specs.Names.{name_eq}
use Rattle.records.specs.Keys.{key_of, differ}
use Rattle.expr.specs.Scope.{named, reg_no, scope_of}

passed : (b : Bool) (nm : Name) (r : ℕ) (rest : Scope) (x : Name) → (b ≡ true → eq_name nm x ≡ false) → find x (pick b (with_name nm r rest) rest) ≡ find x rest
unfolding find pick
passed true nm r rest x h = rw (h refl) refl
passed false nm r rest x h = refl

met : (nm : Name) (r : ℕ) (rest : Scope) (x : Name) (key : ℕ) → key ≡ key_of x → eq_name nm x ≡ true → find x (pick (eqb key (key_of nm)) (with_name nm r rest) rest) ≡ Some r
unfolding find pick
met nm r rest x key e h = rw (eq-eqb key (key_of nm) (e ∙ ap key_of (sym (name_eq nm x h)))) (rw h refl)

module _ (img s : List ℕ) (x : Name) where
  pub find_hit : (k : ℕ) → (k ≡ 0 → ⊥) → get_or s (2 * (k - 1) + 1) 0 ≡ key_of x → eq_name (named img s (k - 1)) x ≡ true
      → Some (reg_no s (k - 1)) ≡ find x (scope_of img s k)
  unfolding scope_of
  find_hit zero z e h = absurd (z refl)
  find_hit (suc k) z e h = rw sub-one (sym (met (named img s k) (reg_no s k) (scope_of img s k) x (get_or s (2 * k + 1) 0) (rw sub-one at e) (rw sub-one at h)))

  pub skip_name : (k : ℕ) → (k ≡ 0 → ⊥) → eq_name (named img s (k - 1)) x ≡ false → find x (scope_of img s k) ≡ find x (scope_of img s (k - 1))
  unfolding scope_of
  skip_name zero z h = absurd (z refl)
  skip_name (suc k) z h = rw sub-one (passed _ (named img s k) (reg_no s k) (scope_of img s k) x (λ b. rw sub-one at h))

  pub skip_key : (k : ℕ) → (k ≡ 0 → ⊥) → (get_or s (2 * (k - 1) + 1) 0 ≡ key_of x → ⊥) → find x (scope_of img s k) ≡ find x (scope_of img s (k - 1))
  unfolding scope_of
  skip_key zero z h = absurd (z refl)
  skip_key (suc k) z h = rw sub-one (passed _ (named img s k) (reg_no s k) (scope_of img s k) x
      (λ b. differ (named img s k) x (λ e. (rw sub-one at h) (eqb-true _ _ b ∙ e))))

  pub find_none : (k : ℕ) → k ≡ 0 → None ≡ find x (scope_of img s k)
  unfolding scope_of find
  find_none zero z = refl
  find_none (suc k) z = absurd (omega (arith, z))
