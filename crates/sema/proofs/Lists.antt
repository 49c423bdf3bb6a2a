-- The arguments of an Emit.
use mathlib.Core.List.{List}
use mathlib.Core.Path.{◌≡◌, refl}
use Prim.Native.Nat.{ℕ}
use native.Mathlib.Omega.{arith}
use Rattle.rules.specs.Types.{Typ, Env}
use Rattle.rules.specs.Refusal.{Refusal, Res, ok, bad, ◌>>=◌}
use Rattle.rules.specs.Analyse.{Arg}
use Rattle.typing.specs.Arguments.{sum_up}

pub emit_done : {q : _} (o : Res (List Arg)) (ps : List Typ) (Γ : Env) → ok q ≡ (o >>= sum_up ps 0) → ok Γ ≡ (o >>= λ vs. ok Γ)
unfolding ◌>>=◌ sum_up
emit_done (bad r) ps Γ h = absurd (let z : ◌≡◌ {A = ℕ} 0 1 = cc in omega arith)
emit_done (ok vs) ps Γ h = refl

pub emit_bad : (o : Res (List Arg)) (ps : List Typ) (Γ : Env) (r : Refusal) → bad r ≡ (o >>= sum_up ps 0) → bad r ≡ (o >>= λ vs. ok Γ)
unfolding ◌>>=◌ sum_up
emit_bad (bad e) ps Γ r h = cc
emit_bad (ok vs) ps Γ r h = absurd (let z : ◌≡◌ {A = ℕ} 0 1 = cc in omega arith)
