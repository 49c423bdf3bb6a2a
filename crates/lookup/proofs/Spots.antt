-- A field of a struct: the walk over its Fields, and what an access to it answers and notes.
use Rattle.std.specs.Prelude.{None, Some, Option}
use mathlib.Core.Bool.{Bool, true, false}
use mathlib.Core.List.{List, [], ◌∷◌}
use mathlib.Core.Path.{◌≡◌, refl, sym, ap, ◌∙◌}
use Prim.Native.Nat.{ℕ, ◌+◌, ◌-◌, ◌≤◌, ◌<◌}
use native.Mathlib.Omega.{arith}
use lib.Dec.{eqb}
use borrow.Author.Tests.{eq-eqb, ne_eqb}
use Rattle.rules.specs.Bytes.{pick, Name, eq_name, inside, after}
use Rattle.rules.specs.Tables.{or_else, last, first_index}
use Rattle.rules.specs.Tree.{Struct, Contract}
use Rattle.rules.specs.Types.{Typ}
use Rattle.rules.specs.Analyse.{field_name, struct_named}
use Rattle.rules.specs.Layout.{declared}
use Rattle.rules.specs.Read.{places_from, places_in, name_in, field_at, fields_at, struct_at, second}
use Rattle.before.specs.Fields.{some_none, some_same}
use Rattle.notes.specs.Notes.{noted, left, spot_in_lem, marked}
use Rattle.lookup.specs.Fields.{first_of, last_of, Spotted}
use Rattle.lookup.specs.Places.{places_more}
use Rattle.lookup.proofs.Searches.{or_none, last_step, last_end, first_step, first_end, first_map}
use Rattle.lookup.proofs.Signs.{field_name_lem}

-- v, if something was found: f is not 64
pub seen : (f v : ℕ) → Option ℕ
seen f v = pick (eqb f 64) None (Some v)

-- n Fields are behind: the first of the name has the position f, 64 if there is none, the last stands at q; the rest stand from p to end
pub record Walk (img : List ℕ) (l : ℕ) (x : Name) (end p n f q : ℕ) : Type 0 where
  pub few : n ≤ 64
  pub first : first_index (name_in img) 0 x (places_in 64 img l) ≡ or_else (seen f f) (first_index (name_in img) n x (places_from (64 - n) img p end))
  pub last : last (name_in img) x (places_in 64 img l) ≡ or_else (last (name_in img) x (places_from (64 - n) img p end)) (seen f q)
  pub below : f ≤ 64

-- before the first
pub walk_first : (img : List ℕ) (l : ℕ) (x : Name) → Walk img l x (after img l) (inside img l) 0 64 0
unfolding seen or_else pick
walk_first img l x = record { few = omega arith; first = refl; last = sym (or_none _); below = omega arith }

-- one Field more, the n-th, at p
module _ (is : Bool) (n p f q : ℕ) (h : n < 64) where
  also_first : seen (pick is (pick (eqb f 64) n f) f) (pick is (pick (eqb f 64) n f) f) ≡ or_else (seen f f) (pick is (Some n) None)
  unfolding seen or_else pick
  also_first = by is (eqb f 64) refl
    where
      by : (b c : Bool) → eqb f 64 ≡ c → seen (pick b (pick c n f) f) (pick b (pick c n f) f) ≡ or_else (pick c None (Some f)) (pick b (Some n) None)
      by true true e = rw (ne_eqb n 64 (λ z. omega (arith, h, z)))
      by true false e = rw e
      by false true e = rw e
      by false false e = rw e

  also_last : seen (pick is (pick (eqb f 64) n f) f) (pick is p q) ≡ or_else (pick is (Some p) None) (seen f q)
  unfolding seen or_else pick
  also_last = by is (eqb f 64) refl
    where
      by : (b c : Bool) → eqb f 64 ≡ c → seen (pick b (pick c n f) f) (pick b p q) ≡ or_else (pick b (Some p) None) (pick c None (Some q))
      by true true e = rw (ne_eqb n 64 (λ z. omega (arith, h, z)))
      by true false e = rw e
      by false true e = rw e
      by false false e = rw e

  also_below : f ≤ 64 → pick is (pick (eqb f 64) n f) f ≤ 64
  unfolding pick
  also_below g = by is (eqb f 64)
    where
      by : (b c : Bool) → pick b (pick c n f) f ≤ 64
      by true true = omega (arith, h)
      by true false = g
      by false c = g

module _ (img : List ℕ) (l : ℕ) (x : Name) (end p n f q : ℕ) (w : Walk img l x end p n f q) where
  -- one more
  pub walk_on : {is : Bool} {f' q' : ℕ} → n < 64 → p < end → is ≡ eq_name (name_in img p) x → f' ≡ pick is (pick (eqb f 64) n f) f → q' ≡ pick is p q → Walk img l x end (after img p) (n + 1) f' q'
  walk_on {is} h g e i j = rw (i, j) (record {
    few = omega arith;
    first = w.first ∙ first_step (name_in img) x p _ _ n (seen f f) _ next (also_first is n p f q h ∙ ap (λ b. or_else (seen f f) (pick b (Some n) None)) e);
    last = w.last ∙ last_step (name_in img) x p _ _ (seen f q) _ next (also_last is n p f q h ∙ ap (λ b. or_else (pick b (Some p) None) (seen f q)) e);
    below = also_below is n p f q h w.below;
  })
    where
      next : places_from (64 - n) img p end ≡ p ∷ places_from (64 - (n + 1)) img (after img p) end
      next = let z : 64 - (n + 1) ≡ 64 - n - 1 = omega arith in rw z (places_more img (64 - n) p end (λ y. omega arith) g)

  -- none is left: it was found, or not
  pub walked_at : places_from (64 - n) img p end ≡ [] → (f ≡ 64 → ⊥) → Spotted img l x (Some (record { position = f; place = q }))
  unfolding first_of last_of seen pick
  walked_at e g = record {
    first = sym (w.first ∙ (first_end (name_in img) x _ n (seen f f) e ∙ rw (ne_eqb f 64 g)));
    last = sym (w.last ∙ (last_end (name_in img) x _ (seen f q) e ∙ rw (ne_eqb f 64 g)));
    below = λ k z. let y = some_same f k z in let b = w.below in omega (arith, b, g, y);
  }

  pub walked_none : places_from (64 - n) img p end ≡ [] → f ≡ 64 → Spotted img l x None
  unfolding first_of last_of seen pick
  walked_none e g = record {
    first = sym (w.first ∙ (first_end (name_in img) x _ n (seen f f) e ∙ rw (eq-eqb f 64 g)));
    last = sym (w.last ∙ (last_end (name_in img) x _ (seen f q) e ∙ rw (eq-eqb f 64 g)));
    below = λ k z. some_none k (sym z);
  }

-- 02: P2: where the field stands in the struct at s
pub spot_in : (img : List ℕ) (s : ℕ) (x : Name) {o : Option ℕ} → o ≡ first_index (name_in img) 0 x (places_in 64 img (second img s)) → spot_in_lem (Some (struct_at img s)) x ≡ o
unfolding spot_in_lem struct_at fields_at
spot_in img s x e = first_map (field_at img) field_name (name_in img) (field_name_lem img) x 0 (places_in 64 img (second img s)) ∙ sym e

module _ (C : Contract) (s x : Name) (N : List ℕ) (at : ℕ) where
  -- the note of an access to a struct that is declared, and to one that is not
  pub marked_at : {d : Struct} {n : ℕ} → Some d ≡ struct_named C s → spot_in_lem (Some d) x ≡ Some n → noted N at n ≡ marked N at (spot_in_lem (declared C (Typ.struct s)) x)
  unfolding declared marked
  marked_at h e = rw (← h, e)

  pub marked_none : None ≡ struct_named C s → left N ≡ marked N at (spot_in_lem (declared C (Typ.struct s)) x)
  unfolding declared marked spot_in_lem
  marked_none h = rw (← h)
