-- What analysis of a checked image has written is what the notes are to say; and what they say of offsets and of 30.
-- Assumes nothing.
use mathlib.Core.List.{List, [], ◌∷◌, ◌++◌}
use Rattle.std.specs.Prelude.{Bool, eqb, length, get_or, None, Option, Some}
use Rattle.std.proofs.Math.Bool.{true, false}
use Rattle.std.proofs.Math.Path.{◌≡◌, refl, ap}
use Rattle.std.proofs.Common.{sym, ◌∙◌, arith, eq-eqb, eqb-true, ne_eqb, length-set}
use Prim.Native.Nat.{ℕ, ◌+◌, ◌-◌, ◌*◌, ◌/◌, ◌%◌, ◌≤◌, ◌<◌}
use Rattle.std.proofs.lemmas.Bool.{eqb-false}
use Rattle.std.proofs.Math.Seq.{get_or-set_same, get_or-set_other}
use Rattle.rules.specs.Bytes.{pick, Name, eq_name, ◌and◌, ◌or◌}
use Rattle.rules.specs.Tables.{first_index}
use Rattle.rules.specs.Tree.{Struct, Contract}
use Rattle.rules.specs.Types.{Typ}
use Rattle.rules.specs.Analyse.{field_name, analyse}
use Rattle.rules.specs.Refusal.{ok}
use Rattle.rules.specs.Read.{contract_at}
use Rattle.rules.specs.Meant.{Access, accesses, base_at}
use Rattle.rules.specs.Seen.{Sound}
use Rattle.rules.specs.Check.{check_of}
use Rattle.rules.specs.Layout.{layouts, positions, first_of, declared, among, choices, offset}
use Rattle.rules.specs.Ambiguous.{differs, apart, is_ambiguous_lem}
use Rattle.records.specs.Names.{name_refl, never}
use Rattle.bounds.specs.Held.{Opt, opt_some, Each, first_index_low}
use Rattle.bounds.specs.Cuts.{cut, declared_few}
use Rattle.bounds.specs.Sparse.{Apart, Sparse}
use Rattle.bounds.proofs.ContractOf.{uncut, accesses_sparse}
use Rattle.before.specs.Fields.{some_none, some_same}
use Rattle.before.specs.Meant.{meant_has}
use Rattle.notes.specs.Notes.{noted, left, read_as_lem, note_at, spot_in_lem, spot_of, marked, written, field_in, Noted, Blank}
use Rattle.notes.specs.Clear.{Sure, one_choice, sure_clear}

-- One list after another.
pub written_append : (C : Contract) (N : List ℕ) (l k : List Access) → written C N (l ++ k) ≡ written C (written C N l) k
unfolding written
written_append C N [] k = refl
written_append C N (a ∷ l) k = written_append C (marked N a.place (spot_of C a)) l k

-- The byte of q and k, taken apart.
parts_of : (r k : ℕ) → k < 64 → ((r * 64 + k + 1 - 1) / 64 ≡ r) × ((r * 64 + k + 1 - 1) % 64 ≡ k)
parts_of r k h = (omega arith, omega arith)

-- A byte that was noted for q, read at a place of the same three.
read_noted : (p q k : ℕ) → k < 64 → p / 3 ≡ q / 3 → read_as_lem p (q % 3 * 64 + k + 1) ≡ pick (eqb q p) (Some k) None
unfolding read_as_lem pick
read_noted p q k h e = let g = parts_of (q % 3) k h in rw (ne_eqb (q % 3 * 64 + k + 1) 0 (λ z. omega (arith, z)), g.0, g.1) (by (eqb q p) refl)
  where
    by : (b : Bool) → eqb q p ≡ b → pick (eqb (q % 3) (p % 3)) (Some k) None ≡ pick b (Some k) None
    by true z = rw (eq-eqb (q % 3) (p % 3) (ap (λ n. n % 3) (eqb-true q p z)))
    by false z = rw (ne_eqb (q % 3) (p % 3) (λ y. eqb-false q p z (omega (arith, e, y))))

-- A position that is noted is below 64.
read_few : (p v k : ℕ) → read_as_lem p v ≡ Some k → k < 64
unfolding read_as_lem pick
read_few p v k e = by (eqb v 0) (eqb ((v - 1) / 64) (p % 3)) e
  where
    by : (b c : Bool) → pick b None (pick c (Some ((v - 1) % 64)) None) ≡ Some k → k < 64
    by true c h = some_none k (sym h)
    by false true h = let z = some_same ((v - 1) % 64) k h in omega (arith, z)
    by false false h = some_none k (sym h)

pub note_few : (N : List ℕ) (p k : ℕ) → note_at N p ≡ Some k → k < 64
unfolding note_at
note_few N p k e = read_few p (get_or N (p / 3) 0) k e

-- A byte where none of them is noted stays, but for the last.
marked_else : (N : List ℕ) (p i : ℕ) (o : Option ℕ) → (p / 3 ≡ i → ⊥) → (i ≡ 21845 → ⊥) → get_or (marked N p o) i 0 ≡ get_or N i 0
unfolding marked noted left
marked_else N p i (Some k) h g = get_or-set_other N (p / 3) i _ 0 (λ z. h (sym z))
marked_else N p i None h g = get_or-set_other N 21845 i _ 0 (λ z. g z)

written_else : (C : Contract) (N : List ℕ) (l : List Access) (i : ℕ) → Each (λ (a : Access). a.place / 3 ≡ i → ⊥) l → (i ≡ 21845 → ⊥) → get_or (written C N l) i 0 ≡ get_or N i 0
unfolding written
written_else C N [] i h g = refl
written_else C N (a ∷ l) i h g = written_else C (marked N a.place (spot_of C a)) l i h.1 g ∙ marked_else N a.place i (spot_of C a) h.0 g

marked_long : (N : List ℕ) (p : ℕ) (o : Option ℕ) → length (marked N p o) ≡ length N
unfolding marked noted left
marked_long N p (Some k) = length-set N (p / 3) _
marked_long N p None = length-set N 21845 _

-- No byte more or less.
pub written_long : (C : Contract) (N : List ℕ) (l : List Access) → length (written C N l) ≡ length N
unfolding written
written_long C N [] = refl
written_long C N (a ∷ l) = written_long C (marked N a.place (spot_of C a)) l ∙ marked_long N a.place (spot_of C a)

-- Nor is any of them found there.
absent : (p : ℕ) (x : Name) (l : List Access) → Each (λ (a : Access). a.place / 3 ≡ p / 3 → ⊥) l → base_at p x l ≡ Typ.unknown
unfolding base_at pick
absent p x [] h = refl
absent p x (a ∷ l) h = rw (ne_eqb a.place p (λ z. h.0 (ap (λ n. n / 3) z))) (absent p x l h.1)

-- What is far from one is far from a place of its three.
far_too : (q i : ℕ) → i ≡ q / 3 → (l : List Access) → Each (λ (b : Access). q / 3 ≡ b.place / 3 → ⊥) l → Each (λ (b : Access). b.place / 3 ≡ i → ⊥) l
far_too q i e [] h = tt
far_too q i e (b ∷ l) h = (λ z. h.0 (sym (z ∙ e)), far_too q i e l h.1)

-- Every access stands within the notes.
longer : (n m : ℕ) → n ≤ m → (l : List Access) → Each (λ (a : Access). a.place / 3 < n) l → Each (λ (a : Access). a.place / 3 < m) l
longer n m e [] h = tt
longer n m e (a ∷ l) h = (omega (arith, e, h.0), longer n m e l h.1)

module _ (C : Contract) (F : ℕ → Name) (few : (a : Access) (k : ℕ) → spot_of C a ≡ Some k → k < 64) where
  -- One access, in notes that said nothing of its three places.
  here : (N : List ℕ) (a : Access) (p : ℕ) → p / 3 ≡ a.place / 3 → a.place / 3 < length N → (p / 3 ≡ 21845 → ⊥) → get_or N (p / 3) 0 ≡ 0 → (o : Option ℕ) → spot_of C a ≡ o
      → read_as_lem p (get_or (marked N a.place o) (p / 3) 0) ≡ pick (eqb a.place p) o None
  unfolding marked noted left read_as_lem pick
  here N a p e r u z (Some k) s = rw (e, get_or-set_same N (a.place / 3) (a.place % 3 * 64 + k + 1) 0 r) (read_noted p a.place k (few a k s) e)
  here N a p e r u z None s = rw (get_or-set_other N 21845 (p / 3) 255 0 (λ y. u y), z) (by (eqb a.place p))
    where
      by : (b : Bool) → ◌≡◌ {A = Option ℕ} None (pick b None None)
      by true = refl
      by false = refl

  -- What is found there.
  there : (a : Access) (p : ℕ) → a.field ≡ F a.place → (b : Bool) → eqb a.place p ≡ b
      → spot_in_lem (declared C (pick (b and eq_name a.field (F p)) a.base Typ.unknown)) (F p) ≡ pick b (spot_of C a) None
  unfolding pick spot_in_lem declared spot_of
  there a p n true e = let q : a.field ≡ F p = n ∙ ap F (eqb-true a.place p e) in rw (← q, name_refl a.field)
  there a p n false e = refl

  -- All of them.
  says : (N : List ℕ) (l : List Access) → Apart l → Each (λ (a : Access). a.field ≡ F a.place) l → Each (λ (a : Access). a.place / 3 < length N) l
      → (p : ℕ) → (p / 3 ≡ 21845 → ⊥) → get_or N (p / 3) 0 ≡ 0 → note_at (written C N l) p ≡ spot_in_lem (declared C (base_at p (F p) l)) (F p)
  unfolding note_at written base_at read_as_lem pick spot_in_lem declared
  says N [] a n r p u z = rw z
  says N (x ∷ l) a n r p u z = by (eqb (p / 3) (x.place / 3)) refl (says (marked N x.place (spot_of C x)) l a.1 n.1 (longer (length N) (length (marked N x.place (spot_of C x))) (let z = marked_long N x.place (spot_of C x) in omega (arith, z)) l r.1) p u)
    where
      N₁ : List ℕ
      N₁ = marked N x.place (spot_of C x)

      by : (b : Bool) → eqb (p / 3) (x.place / 3) ≡ b → (get_or N₁ (p / 3) 0 ≡ 0 → read_as_lem p (get_or (written C N₁ l) (p / 3) 0) ≡ spot_in_lem (declared C (base_at p (F p) l)) (F p))
          → read_as_lem p (get_or (written C N₁ l) (p / 3) 0) ≡ spot_in_lem (declared C (pick (eqb x.place p and eq_name x.field (F p)) x.base (base_at p (F p) l))) (F p)
      by true e f =
          let q = eqb-true (p / 3) (x.place / 3) e in
          let g = far_too x.place (p / 3) q l a.0 in
          rw (written_else C N₁ l (p / 3) g u, absent p (F p) l g) (here N x p q r.0 u z (spot_of C x) refl ∙ sym (there x p n.0 (eqb x.place p) refl))
      by false e f =
          let q = eqb-false (p / 3) (x.place / 3) e in
          rw (ne_eqb x.place p (λ y. q (ap (λ m. m / 3) (sym y)))) (f (marked_else N x.place (p / 3) (spot_of C x) (λ y. q (sym y)) u ∙ z))

-- The last byte is no access's: it says whether some access is searched.
module _ (C : Contract) where
  -- it is
  is_none : Option ℕ → Bool
  is_none None = true
  is_none (Some k) = false

  searched : List Access → Bool
  searched [] = false
  searched (a ∷ l) = is_none (spot_of C a) or searched l

  marked_last : (N : List ℕ) (p : ℕ) (o : Option ℕ) → length N ≡ 21846 → p / 3 < 21845 → get_or (marked N p o) 21845 0 ≡ pick (is_none o) 255 (get_or N 21845 0)
  unfolding marked noted left pick is_none
  marked_last N p None h g = get_or-set_same N 21845 255 0 (omega (arith, h))
  marked_last N p (Some k) h g = get_or-set_other N (p / 3) 21845 _ 0 (λ z. omega (arith, g, z))

  either : (b c : Bool) (v : ℕ) → pick c 255 (pick b 255 v) ≡ pick (b or c) 255 v
  unfolding pick
  either true true v = refl
  either true false v = refl
  either false true v = refl
  either false false v = refl

  written_last : (N : List ℕ) (l : List Access) → length N ≡ 21846 → Each (λ (a : Access). a.place / 3 < 21845) l
      → get_or (written C N l) 21845 0 ≡ pick (searched l) 255 (get_or N 21845 0)
  unfolding written pick searched
  written_last N [] h w = refl
  written_last N (a ∷ l) h w =
      written_last (marked N a.place (spot_of C a)) l (marked_long N a.place (spot_of C a) ∙ h) w.1
      ∙ (ap (pick (searched l) 255) (marked_last N a.place (spot_of C a) h w.0) ∙ either (is_none (spot_of C a)) (searched l) (get_or N 21845 0))

  -- none is: each has its position
  all_sure : (l : List Access) → searched l ≡ false → Each (Sure C) l
  unfolding is_none searched
  all_sure [] h = tt
  all_sure (a ∷ l) h = by (spot_of C a) refl h (all_sure l)
    where
      by : (o : Option ℕ) → spot_of C a ≡ o → (is_none o or searched l) ≡ false → (searched l ≡ false → Each (Sure C) l) → Sure C a × Each (Sure C) l
      by None e g r = never (sym g)
      by (Some k) e g r = ((k, e), r g)

-- Whatever it says, it says nothing of a place.
silent : (p : ℕ) (b : Bool) → read_as_lem p (pick b 255 0) ≡ None
unfolding read_as_lem pick
silent p true = rw (ne_eqb 3 (p % 3) (λ z. omega (arith, z)))
silent p false = refl

quiet : (b : Bool) → ◌≡◌ {A = ℕ} (pick b 255 0) 0 → b ≡ false
unfolding pick
quiet true h = absurd (omega (arith, h))
quiet false h = refl

-- A position is below 64.
spot_few : (img : List ℕ) (a : Access) (k : ℕ) → spot_of (contract_at img) a ≡ Some k → k < 64
unfolding spot_of spot_in_lem
spot_few img a k e = by (declared (contract_at img) a.base) (declared_few (contract_at img) (cut img).fields a.base) e
  where
    by : (o : Option Struct) → Opt (λ (s : Struct). length s.fields ≤ 64) o → spot_in_lem o a.field ≡ Some k → k < 64
    by (Some d) f g = let b = opt_some (λ r. r < 0 + length d.fields) (first_index field_name 0 a.field d.fields) k (first_index_low field_name 0 a.field d.fields) g in omega (arith, b, f)
    by None f g = some_none k (sym g)

-- Within an image of n bytes, within the notes, and not at their last byte.
all_within : (n : ℕ) → n ≤ 65536 → (l : List Access) → Each (λ (a : Access). (0 ≤ a.place) × (a.place + 6 ≤ n)) l → Each (λ (a : Access). a.place / 3 < 21845) l
all_within n h [] w = tt
all_within n h (a ∷ l) w = (omega (arith, w.0.1, h), all_within n h l w.1)

-- So nothing is found at its places, and nothing is noted.
apart_from : (p : ℕ) → p / 3 ≡ 21845 → (l : List Access) → Each (λ (a : Access). a.place / 3 < 21845) l → Each (λ (a : Access). a.place / 3 ≡ p / 3 → ⊥) l
apart_from p v [] w = tt
apart_from p v (a ∷ l) w = (λ z. omega (arith, z, v, w.0), apart_from p v l w.1)

none_there : (img N : List ℕ) (p : ℕ) → read_as_lem p (get_or N (p / 3) 0) ≡ None → base_at p (field_in img p) (accesses (contract_at img)) ≡ Typ.unknown
    → note_at N p ≡ spot_in_lem (declared (contract_at img) (base_at p (field_in img p) (accesses (contract_at img)))) (field_in img p)
unfolding note_at spot_in_lem declared
none_there img N p h e = rw e h

-- What analysis of a checked image leaves in notes that said nothing, if it accepts it.
pub noted_all : (img : List ℕ) (q m : ℕ) → check_of img ≡ Sound q m → analyse (contract_at img) ≡ ok tt → (N : List ℕ) → Blank N → Noted img (written (contract_at img) N (accesses (contract_at img)))
noted_all img q m e f N z = record {
  clear = λ y. sure_clear C f (all_sure C (accesses C) (quiet (searched C (accesses C)) (sym last ∙ y)));
  is = λ p. by p (eqb (p / 3) 21845) refl;
}
  where
    C : Contract
    C = contract_at img

    s : Sparse img 0 (length img) (accesses C)
    s = accesses_sparse img q m e

    within : Each (λ (a : Access). a.place / 3 < 21845) (accesses C)
    within = all_within _ (uncut img q m e).bytes (accesses C) s.within

    last : get_or (written C N (accesses C)) 21845 0 ≡ pick (searched C (accesses C)) 255 0
    last = written_last C N (accesses C) z.0 within ∙ ap (pick (searched C (accesses C)) 255) (z.1 21845)

    by : (p : ℕ) (b : Bool) → eqb (p / 3) 21845 ≡ b → note_at (written C N (accesses C)) p ≡ spot_in_lem (declared C (base_at p (field_in img p) (accesses C))) (field_in img p)
    by p true u =
        let v = eqb-true (p / 3) 21845 u in
        none_there img (written C N (accesses C)) p (ap (λ i. read_as_lem p (get_or (written C N (accesses C)) i 0)) v ∙ (ap (read_as_lem p) last ∙ silent p (searched C (accesses C))))
        (absent p (field_in img p) (accesses C) (apart_from p v (accesses C) within))
    by p false u =
        says C (field_in img) (spot_few img) N (accesses C) s.apart s.named (longer 21845 (length N) (let y = z.0 in omega (arith, y)) (accesses C) within) p (eqb-false (p / 3) 21845 u) (z.1 (p / 3))

-- What they say of the access at p.
module _ (img N : List ℕ) (n : Noted img N) (p : ℕ) where
  -- its base's struct, and its field
  meant : Option Struct
  meant = declared (contract_at img) (base_at p (field_in img p) (accesses (contract_at img)))

  -- Noted: that is the position, and it is the only one.
  pub noted_one : (k : ℕ) → note_at N p ≡ Some k → choices (contract_at img) p (field_in img p) ≡ (k ∷ [])
  unfolding choices meant
  noted_one k e = one_choice (field_in img p) k meant (sym (n.is p) ∙ e) (layouts (contract_at img).structs)

  sought : (o : Option Struct) → ((d : Struct) → o ≡ Some d → first_index field_name 0 (field_in img p) d.fields ≡ None → ⊥) → spot_in_lem o (field_in img p) ≡ None → (l : List Struct)
      → positions (field_in img p) (among o l) ≡ positions (field_in img p) l
  unfolding spot_in_lem among
  sought (Some d) h e l = absurd (h d refl e)
  sought None h e l = refl

  -- Not noted: the old search.
  pub noted_none : note_at N p ≡ None → choices (contract_at img) p (field_in img p) ≡ positions (field_in img p) (layouts (contract_at img).structs)
  unfolding choices meant
  noted_none e = sought meant (λ d f. meant_has (contract_at img) p (field_in img p) d f) (sym (n.is p) ∙ e) (layouts (contract_at img).structs)

  -- So generation reads an offset off them,
  pub offset_one : (k : ℕ) → note_at N p ≡ Some k → offset (contract_at img) p (field_in img p) ≡ k * 8
  unfolding offset first_of
  offset_one k e = rw (noted_one k e)

  pub offset_none : note_at N p ≡ None → offset (contract_at img) p (field_in img p) ≡ first_of (positions (field_in img p) (layouts (contract_at img).structs)) * 8
  unfolding offset
  offset_none e = rw (noted_none e)

  -- and 30 is not given where there is a note.
  pub clear_one : (k : ℕ) → note_at N p ≡ Some k → is_ambiguous_lem (contract_at img) p (field_in img p) ≡ false
  unfolding is_ambiguous_lem apart differs
  clear_one k e = rw (noted_one k e)

  pub clear_none : note_at N p ≡ None → is_ambiguous_lem (contract_at img) p (field_in img p) ≡ apart (positions (field_in img p) (layouts (contract_at img).structs))
  unfolding is_ambiguous_lem
  clear_none e = rw (noted_none e)
