-- Types, by tag and name.
use mathlib.Core.Bool.{Bool, true, false}
use mathlib.Core.List.{List, []}
use mathlib.Core.Path.{◌≡◌, refl}
use Prim.Native.Nat.{ℕ, ◌-◌, ◌≤◌, ◌<◌}
use native.Mathlib.Omega.{arith}
use borrow.Author.Tests.{eq-eqb, ne_eqb}
use lib.ListN.{length, drop_of_length-le}
use lib.Seq.{take-nil}
use Rattle.rules.specs.Bytes.{pick, Name, eq_name, name_at, inside, after}
use Rattle.rules.specs.Types.{Typ, tag_of, name_of, eq_typ, is_unknown, clash, init_clash}
use Rattle.lookup.specs.Answers.{typ_of}

inside_end : (l : List ℕ) → length l ≤ inside l (length l)
unfolding inside
inside_end l = omega arith

-- no name stands at the end
pub name_end : (img : List ℕ) → name_at img (length img) ≡ []
unfolding name_at
name_end img = rw (drop_of_length-le img (inside_end img)) (take-nil (after img (length img) - inside img (length img)))

-- a type without a name, by its tag
nameless : (A : Typ) → tag_of A < 5 → name_of A ≡ []
unfolding tag_of name_of
nameless Typ.u64 h = refl
nameless Typ.bool h = refl
nameless Typ.field h = refl
nameless Typ.void h = refl
nameless Typ.unknown h = refl
nameless (Typ.struct x) h = absurd (omega arith)

module _ (A B : Typ) where
  pub low_tags : {x y : ℕ} → x ≡ tag_of A → y ≡ tag_of B → x ≡ y → x < 5 → true ≡ eq_typ A B
  unfolding eq_typ eq_name
  low_tags p q e h = rw (nameless A (omega arith), nameless B (omega arith), ← p, ← q, eq-eqb _ _ e)

  pub same_tags : {x y : ℕ} {n m : Name} → x ≡ tag_of A → y ≡ tag_of B → x ≡ y → n ≡ name_of A → m ≡ name_of B → eq_name n m ≡ eq_typ A B
  unfolding eq_typ
  same_tags p q e h k = rw (← p, ← q, ← h, ← k, eq-eqb _ _ e)

  pub other_tags : {x y : ℕ} → x ≡ tag_of A → y ≡ tag_of B → (x ≡ y → ⊥) → false ≡ eq_typ A B
  unfolding eq_typ
  other_tags p q e = rw (← p, ← q, ne_eqb _ _ e)

  module _ {s : Bool} (e : s ≡ eq_typ A B) where
    pub clash_same : s ≡ true → false ≡ clash A B
    unfolding clash is_unknown
    clash_same h = rw (← e, h)

    pub clash_left : {x : ℕ} → s ≡ false → x ≡ tag_of A → x ≡ 4 → false ≡ clash A B
    unfolding clash is_unknown
    clash_left h p k = rw (← e, h, ← p, k)

    pub clash_right : {x y : ℕ} → s ≡ false → x ≡ tag_of A → (x ≡ 4 → ⊥) → y ≡ tag_of B → y ≡ 4 → false ≡ clash A B
    unfolding clash is_unknown
    clash_right h p k q l = rw (← e, h, ← p, ne_eqb _ _ k, ← q, l)

    pub clash_yes : {x y : ℕ} → s ≡ false → x ≡ tag_of A → (x ≡ 4 → ⊥) → y ≡ tag_of B → (y ≡ 4 → ⊥) → true ≡ clash A B
    unfolding clash is_unknown
    clash_yes h p k q l = rw (← e, h, ← p, ne_eqb _ _ k, ← q, ne_eqb _ _ l)

    -- of an Init of a field of type B, with a value of type A
    pub init_same : s ≡ true → false ≡ init_clash B A
    unfolding init_clash is_unknown
    init_same h = rw (← e, h)

    pub init_unknown : {x : ℕ} → s ≡ false → x ≡ tag_of A → x ≡ 4 → false ≡ init_clash B A
    unfolding init_clash is_unknown
    init_unknown h p k = rw (← e, h, ← p, k)

    pub init_yes : {x : ℕ} → s ≡ false → x ≡ tag_of A → (x ≡ 4 → ⊥) → true ≡ init_clash B A
    unfolding init_clash is_unknown
    init_yes h p k = rw (← e, h, ← p, ne_eqb _ _ k)

pub typ_struct : (k : ℕ) (x : Name) → (k ≡ 0 → ⊥) → (k ≡ 1 → ⊥) → (k ≡ 2 → ⊥) → (k ≡ 3 → ⊥) → (k ≡ 4 → ⊥) → Typ.struct x ≡ typ_of k x
unfolding typ_of pick
typ_struct k x a b c d e = simp (ne_eqb _ _ a, ne_eqb _ _ b, ne_eqb _ _ c, ne_eqb _ _ d, ne_eqb _ _ e)
