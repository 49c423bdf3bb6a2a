-- Parameters, and the functions in turn.
use mathlib.Core.List.{List, [], ◌∷◌, map}
use mathlib.Core.Path.{◌≡◌, refl, ap, ◌∙◌}
use Prim.Native.Nat.{ℕ, ◌+◌}
use native.Mathlib.Omega.{arith}
use lib.ListN.{length}
use Rattle.rules.specs.Bytes.{name_at, inside}
use Rattle.rules.specs.Tree.{Function, Contract}
use Rattle.rules.specs.Types.{Typ, type_named, Env, with_name}
use Rattle.rules.specs.Refusal.{Refusal, ok, bad}
use Rattle.rules.specs.Analyse.{ret_type, stmts, function, with_params}
use Rattle.rules.specs.Read.{stmt_at_lem, places_in, field_at, fields_at, function_at, body_at, second, fifth}
use Rattle.bounds.specs.Sizes.{vars-stmts}
use Rattle.lookup.specs.declared.Ty.{Ty}
use Rattle.lookup.specs.Answers.{ty_of, env_of}
use Rattle.lookup.specs.Scope.{Pushed, pushed_env}
use Rattle.lookup.specs.Places.{length_map}
use Rattle.lookup.specs.Results.{then_ok, then_bad}
use Rattle.sema.specs.Steps.{Bound, names}

pub names_at : (img : List ℕ) (p : ℕ) → names (function_at img p) ≡ length (places_in 512 img (second img p)) + vars-stmts (body_at (stmt_at_lem 64 img) img (fifth img p))
unfolding function_at fields_at
names_at img p = rw (length_map (field_at img) (places_in 512 img (second img p)))

-- no parameter more; one more, at p
pub bound_none : {img e : List ℕ} {top : ℕ} (ps : List ℕ) → ps ≡ [] → Bound img e e top ps top
unfolding with_params
bound_none ps q = rw q (record { next = omega arith; more = refl; size = refl })

pub bound_more : {img e e1 e2 : List ℕ} {top x k r : ℕ} {t : Ty} (p : ℕ) {ps l : List ℕ} → Pushed img e e1 top x t k → x ≡ inside img p → ty_of img t ≡ type_named (name_at img (second img p))
    → l ≡ p ∷ ps → Bound img e1 e2 k ps r → Bound img e e2 top l r
unfolding with_params field_at
bound_more {img} {e} {e1} {e2} {top} {x} {k} {r} {t} p {ps} q hx ht w b = rw w (record {
  next = omega (arith, b.next, q.next);
  more = b.more ∙ ap (with_params (map (field_at img) ps)) (pushed_env q ∙ ap (λ (n : ℕ). with_name (name_at img n) (ty_of img t) (env_of img e top)) hx ∙ ap (λ (a : Typ). with_name (name_at img (inside img p)) a (env_of img e top)) ht);
  size = b.size ∙ q.size;
})

module _ (C : Contract) (f : Function) where
  pub function_ok : {Δ : Env} → ok Δ ≡ stmts C (ret_type f.ret) f.body (with_params f.params []) → ok tt ≡ function C f
  unfolding function
  function_ok h = then_ok _ h refl

  pub function_bad : {r : Refusal} → bad r ≡ stmts C (ret_type f.ret) f.body (with_params f.params []) → bad r ≡ function C f
  unfolding function
  function_bad h = then_bad _ h
