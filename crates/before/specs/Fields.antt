-- Where a field stands: where all structs agree on it, it stands in each as in the first.
-- Assumes nothing.
use Rattle.std.specs.Prelude.{◌≡◌, Bool, not, ℕ, suc, eqb, None, Option, Some}
use Rattle.std.proofs.Math.Path.{refl, subst}
use Rattle.std.proofs.Common.{sym, ap, ◌∙◌, eqb-true}
use Rattle.std.proofs.Math.Bool.{true, false}
use mathlib.Core.List.{List, [], ◌∷◌}
use Rattle.rules.specs.Bytes.{pick, Name, eq_name, ◌or◌}
use Rattle.rules.specs.Tables.{or_else, last, first_index}
use Rattle.rules.specs.Tree.{Field, Struct}
use Rattle.rules.specs.Analyse.{struct_name, field_name}
use Rattle.rules.specs.Layout.{kept, layouts, with_position, positions, first_of}
use Rattle.rules.specs.Ambiguous.{differs, apart}
use Rattle.records.specs.Names.{name_eq, never}
use Rattle.bounds.specs.Held.{Opt, Each}

-- Something is not nothing.
pub some_none : {A B : Type 0} (a : A) → Some a ≡ None → B
some_none a h = never (ap test (sym h))
  where
    test : {A : Type 0} → Option A → Bool
    test None = false
    test (Some a) = true

-- What was found is one thing.
pub some_same : {A : Type 0} (a b : A) → Some a ≡ Some b → a ≡ b
some_same a b h = ap (or-this a) h
  where
    or-this : {A : Type 0} → A → Option A → A
    or-this z None = z
    or-this z (Some a) = a

-- No number of the list is another.
differs_none : (i : ℕ) (l : List ℕ) → differs i l ≡ false → Each (λ j. i ≡ j) l
unfolding differs
differs_none i [] h = tt
differs_none i (j ∷ l) h = by (eqb i j) refl h (differs_none i l)
  where
    by : (b : Bool) → eqb i j ≡ b → (not b or differs i l) ≡ false → (differs i l ≡ false → Each (λ j. i ≡ j) l) → (i ≡ j) × Each (λ j. i ≡ j) l
    by true e g r = (eqb-true i j e, r g)
    by false e g r = never (sym g)

-- 01: For 30: where no two positions differ, each is the first.
pub agreed : (l : List ℕ) → apart l ≡ false → Each (λ j. first_of l ≡ j) l
unfolding apart first_of
agreed [] h = tt
agreed (i ∷ l) h = (refl, differs_none i l h)

module _ (P : ℕ → Type 0) (x : Name) where
  -- What holds of every position holds of those behind the first struct,
  less : (o : Option ℕ) (l : List ℕ) → Each P (with_position o l) → Each P l
  unfolding with_position
  less (Some i) l h = h.1
  less None l h = h

  -- of the first,
  first : (o : Option ℕ) (l : List ℕ) → Each P (with_position o l) → Opt P o
  unfolding with_position
  first (Some i) l h = h.0
  first None l h = tt

  -- of those behind one that is replaced or kept,
  rest : (o : Option Struct) (s : Struct) (l : List Struct) → Each P (positions x (kept o s l)) → Each P (positions x l)
  unfolding kept positions
  rest (Some t) s l h = h
  rest None s l h = less _ _ h

  -- of one that is kept;
  kept_one : (o : Option Struct) → o ≡ None → (s : Struct) (l : List Struct) → Each P (positions x (kept o s l)) → Opt P (first_index field_name 0 x s.fields)
  unfolding kept positions
  kept_one (Some t) e s l h = some_none t e
  kept_one None e s l h = first _ _ h

  -- so of the struct of a name, as last declared.
  pub of_declared : (y : Name) (ss : List Struct) → Each P (positions x (layouts ss)) → (d : Struct) → last struct_name y ss ≡ Some d → Opt P (first_index field_name 0 x d.fields)
  unfolding layouts last or_else pick
  of_declared y [] h d e = some_none d (sym e)
  of_declared y (s ∷ ss) h d e = by (last struct_name y ss) refl e (of_declared y ss (rest _ s (layouts ss) h) d)
    where
      here : (b : Bool) → eq_name s.name y ≡ b → last struct_name y ss ≡ None → pick b (Some s) None ≡ Some d → Opt P (first_index field_name 0 x d.fields)
      here true n z g =
          subst (λ (t : Struct). Opt P (first_index field_name 0 x t.fields)) (some_same s d g)
          (kept_one (last struct_name s.name ss) (subst (λ z. last struct_name z ss ≡ None) (sym (name_eq s.name y n)) z) s (layouts ss) h)
      here false n z g = some_none d (sym g)

      by : (o : Option Struct) → last struct_name y ss ≡ o → or_else o (pick (eq_name s.name y) (Some s) None) ≡ Some d
          → (last struct_name y ss ≡ Some d → Opt P (first_index field_name 0 x d.fields)) → Opt P (first_index field_name 0 x d.fields)
      by (Some t) q g r = r (q ∙ g)
      by None q g r = here (eq_name s.name y) refl q g

-- A field that is nowhere first is nowhere last.
pub first_none : (i : ℕ) (x : Name) (l : List Field) → first_index field_name i x l ≡ None → last field_name x l ≡ None
unfolding first_index last or_else pick
first_none i x [] h = refl
first_none i x (f ∷ l) h = by (eq_name f.name x) h (first_none (suc i) x l)
  where
    by : (b : Bool) → or_else (pick b (Some i) None) (first_index field_name (suc i) x l) ≡ None
        → (first_index field_name (suc i) x l ≡ None → last field_name x l ≡ None) → or_else (last field_name x l) (pick b (Some f) None) ≡ None
    by true g r = some_none i g
    by false g r = rw (r g)
