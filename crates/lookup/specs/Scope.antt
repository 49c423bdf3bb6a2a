-- One name more in scope.
-- Assumes nothing.
use Rattle.std.specs.Prelude.{List, ◌≡◌, refl, ℕ, zero, suc, ◌+◌, ◌<◌, length, get_or}
use Rattle.std.proofs.Common.{arith}
use Rattle.rules.specs.Bytes.{name_at}
use Rattle.rules.specs.Types.{with_name}
use Rattle.lookup.specs.declared.Ty.{Ty}
use Rattle.lookup.specs.Answers.{ty_of, env_of}

-- two cells more of the array are in use, up to r; below top it is as it was
pub record Pushed (img e e' : List ℕ) (top x : ℕ) (t : Ty) (r : ℕ) : Type 0 where
  pub next : r ≡ top + 2
  pub more : env_of img e' (top + 2) ≡ with_name (name_at img x) (ty_of img t) (env_of img e top)
  pub kept : (i : ℕ) → i < top → get_or e' i 0 ≡ get_or e i 0
  pub size : length e' ≡ length e

-- the names in use are those of the cells in use
pub env_frame : (img e e' : List ℕ) (k : ℕ) → ((i : ℕ) → i < k → get_or e' i 0 ≡ get_or e i 0) → env_of img e' k ≡ env_of img e k
unfolding env_of
env_frame img e e' zero h = refl
env_frame img e e' (suc zero) h = refl
env_frame img e e' (suc (suc k)) h = simp (h k (omega arith), h (k + 1) (omega arith), env_frame img e e' k (λ i l. h i (omega arith)))

pub pushed_env : {img e e1 : List ℕ} {top x k0 : ℕ} {t : Ty} → Pushed img e e1 top x t k0 → env_of img e1 k0 ≡ with_name (name_at img x) (ty_of img t) (env_of img e top)
pushed_env p = rw p.next p.more
