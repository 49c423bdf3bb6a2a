-- The names in scope, an entry at a time.
use Rattle.std.specs.Prelude.{None, Some}
use mathlib.Core.Bool.{Bool, true, false}
use mathlib.Core.List.{List, []}
use mathlib.Core.Path.{◌≡◌, refl, sym, ap, ◌∙◌}
use Prim.Native.Nat.{ℕ, zero, suc, ◌+◌, ◌-◌, ◌*◌, ◌/◌, ◌%◌, ◌≤◌, ◌<◌}
use native.Mathlib.Omega.{arith}
use borrow.Author.Tests.{eq-eqb, eqb-true}
use lib.Dec.{eqb}
use lib.ListN.{get_or, length, set, length-set}
use lib.Seq.{get_or-set_same, get_or-set_other}
use Rattle.rules.specs.Bytes.{pick, Name, name_at, eq_name}
use Rattle.rules.specs.Types.{Typ, tag_of, name_of, Env, find, with_name}
use Rattle.records.specs.Names.{name_eq}
use Rattle.records.specs.Keys.{key_of, differ}
use Rattle.records.specs.Cells.{place_in, Beside}
use Rattle.lookup.specs.declared.Ty.{Ty}
use Rattle.lookup.specs.Answers.{ty_of, typ_of, type_beside, env_of}
use Rattle.lookup.specs.Scope.{Pushed, env_frame}

-- the name a, of type t, with the key c, before the names Γ, in the search of x
module _ (x a : Name) (t : Typ) (Γ : Env) where
  listed : Bool → Env
  listed b = pick b (with_name a t Γ) Γ

  pub here : (c : ℕ) → c ≡ key_of x → eq_name a x ≡ true → find x (pick (eqb c (key_of a)) (with_name a t Γ) Γ) ≡ Some t
  unfolding find pick
  here c h e = rw (eq-eqb c (key_of a) (h ∙ ap key_of (sym (name_eq a x e)))) (rw e)

  not_named : (b : Bool) → eq_name a x ≡ false → find x (listed b) ≡ find x Γ
  unfolding find pick listed
  not_named true e = rw e
  not_named false e = refl

  pub not_here : (c : ℕ) → eq_name a x ≡ false → find x (pick (eqb c (key_of a)) (with_name a t Γ) Γ) ≡ find x Γ
  unfolding listed
  not_here c e = not_named (eqb c (key_of a)) e

  not_keyed : (c : ℕ) (b : Bool) → eqb c (key_of a) ≡ b → (c ≡ key_of x → ⊥) → find x (listed b) ≡ find x Γ
  unfolding listed pick
  not_keyed c true q n = not_named true (differ a x (λ h. n (eqb-true c (key_of a) q ∙ h)))
  not_keyed c false q n = refl

  pub no_key : (c : ℕ) → (c ≡ key_of x → ⊥) → find x (pick (eqb c (key_of a)) (with_name a t Γ) Γ) ≡ find x Γ
  unfolding listed
  no_key c n = not_keyed c (eqb c (key_of a)) refl n

module _ (img env : List ℕ) where
  pub env_more : (k : ℕ) → 2 ≤ k → env_of img env k ≡ pick (eqb (get_or env (k - 2) 0) (key_of (name_at img (place_in (get_or env (k - 2 + 1) 0)))))
      (with_name (name_at img (place_in (get_or env (k - 2 + 1) 0))) (type_beside img (get_or env (k - 2 + 1) 0)) (env_of img env (k - 2))) (env_of img env (k - 2))
  unfolding env_of
  env_more zero h = absurd (omega arith)
  env_more (suc zero) h = absurd (omega arith)
  env_more (suc (suc k)) h = let e : suc (suc k) - 2 ≡ k = omega arith in simp e

  env_none : (k : ℕ) → k < 2 → env_of img env k ≡ []
  unfolding env_of
  env_none zero h = refl
  env_none (suc zero) h = refl
  env_none (suc (suc k)) h = absurd (omega arith)

  module _ (x : Name) (k : ℕ) where
    pub find_hit : 2 ≤ k → get_or env (k - 2) 0 ≡ key_of x → eq_name (name_at img (place_in (get_or env (k - 2 + 1) 0))) x ≡ true
        → find x (env_of img env k) ≡ Some (type_beside img (get_or env (k - 2 + 1) 0))
    find_hit h q e = rw (env_more k h) (here x _ _ _ _ q e)

    pub find_miss : 2 ≤ k → eq_name (name_at img (place_in (get_or env (k - 2 + 1) 0))) x ≡ false → find x (env_of img env k) ≡ find x (env_of img env (k - 2))
    find_miss h e = rw (env_more k h) (not_here x _ _ _ _ e)

    pub find_other : 2 ≤ k → (get_or env (k - 2) 0 ≡ key_of x → ⊥) → find x (env_of img env k) ≡ find x (env_of img env (k - 2))
    find_other h n = rw (env_more k h) (no_key x _ _ _ _ n)

    pub find_none : k < 2 → find x (env_of img env k) ≡ None
    unfolding find
    find_none h = rw (env_none k h)

-- a type is told by its tag and its name
typ_tag : (t : Typ) → typ_of (tag_of t) (name_of t) ≡ t
unfolding typ_of tag_of name_of pick
typ_tag Typ.u64 = refl
typ_tag Typ.bool = refl
typ_tag Typ.field = refl
typ_tag Typ.void = refl
typ_tag Typ.unknown = refl
typ_tag (Typ.struct x) = refl

keyed : (a : Name) (t : Typ) (Γ : Env) → pick (eqb (key_of a) (key_of a)) (with_name a t Γ) Γ ≡ with_name a t Γ
unfolding pick
keyed a t Γ = rw (eq-eqb (key_of a) (key_of a) refl)

tag_small : (t : Typ) → tag_of t < 8
unfolding tag_of
tag_small Typ.u64 = omega arith
tag_small Typ.bool = omega arith
tag_small Typ.field = omega arith
tag_small Typ.void = omega arith
tag_small Typ.unknown = omega arith
tag_small (Typ.struct x) = omega arith

-- the tag and the place of the name of a type, as one number
module _ (img : List ℕ) (a b : ℕ) (t : Ty) (ta : a ≡ tag_of (ty_of img t)) where
  pub type_fits : length img ≤ 65536 → b ≤ length img → a + 8 * b < 1099511627776
  type_fits small h = omega (arith, ta, tag_small (ty_of img t))

  type_back : name_at img b ≡ name_of (ty_of img t) → typ_of ((a + 8 * b) % 8) (name_at img ((a + 8 * b) / 8)) ≡ ty_of img t
  type_back tb =
      let y : (a + 8 * b) % 8 ≡ a = omega (arith, ta, tag_small (ty_of img t)) in
      let z : (a + 8 * b) / 8 ≡ b = omega (arith, ta, tag_small (ty_of img t)) in
      rw (y, z, ta, tb) (typ_tag (ty_of img t))

  module _ (e : List ℕ) (top q x v : ℕ) (room : top + 2 ≤ length e) (tq : q ≡ key_of (name_at img x)) (tv : Beside img x (a + 8 * b) v) (tb : name_at img b ≡ name_of (ty_of img t)) where
    keyed_cell : List ℕ
    keyed_cell = set e top q

    more : List ℕ
    more = set keyed_cell (top + 1) v

    below : (i : ℕ) → i < top → get_or more i 0 ≡ get_or e i 0
    unfolding keyed_cell more
    below i h = get_or-set_other keyed_cell (top + 1) i v 0 (λ z. omega arith) ∙ get_or-set_other e top i q 0 (λ z. omega arith)

    key_there : get_or more top 0 ≡ q
    unfolding keyed_cell more
    key_there = get_or-set_other keyed_cell (top + 1) top v 0 (λ z. omega arith) ∙ get_or-set_same e top q 0 (omega arith)

    cell_there : get_or more (top + 1) 0 ≡ v
    unfolding keyed_cell more
    cell_there = get_or-set_same keyed_cell (top + 1) v 0 (omega (arith, length-set e top q))

    one_more : env_of img more (top + 2) ≡ with_name (name_at img x) (ty_of img t) (env_of img e top)
    one_more =
        let z : top + 2 - 2 ≡ top = omega arith in
        rw (env_more img more (top + 2) (omega arith), z, key_there ∙ tq, cell_there, tv.name, tv.number, type_back tb, env_frame img e more top below)
        (keyed (name_at img x) (ty_of img t) (env_of img e top))

    pub pushed : Pushed img e (set (set e top q) (top + 1) v) top x t (top + 2)
    unfolding keyed_cell more
    pushed = record { next = refl; more = one_more; kept = below; size = length-set keyed_cell (top + 1) v ∙ length-set e top q }
