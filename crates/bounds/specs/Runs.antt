-- A sound record's parts one by one, and the Lists among them.
-- Assumes nothing.
use Rattle.std.specs.Prelude.{◌≡◌, refl, Bool, true, false, List, [], ◌∷◌, ℕ, zero, suc, ◌+◌, ◌≤◌, ◌<◌, T, eqb, length}
use Rattle.std.proofs.Common.{sym, subst, ap, ◌∙◌, arith, lt-ltb, le-ltb}
use Rattle.rules.specs.Seen.{Sound}
use Rattle.rules.specs.Bytes.{pick, kind_at, inside, after, name_at}
use Rattle.rules.specs.Grammar as due
use Rattle.rules.specs.Grammar.{classes, class_of, due_at}
use Rattle.rules.specs.Check.{counts, vars_in_lem, start_of, record_of}
use Rattle.rules.specs.Read.{when, places_from}
use Rattle.bounds.specs.Sound.{Run, no_more, one_more, Stands, none_left, stands}
use Rattle.bounds.specs.Whole.{Reads, read_all, read_one}

-- A part that stands.
pub record Part (left : ℕ) (img : List ℕ) (end d k i p vars m : ℕ) : Type 0 where
  pub before : p < end
  pub within : after img p ≤ end
  pub counted : ℕ
  pub sound : record_of left img p end (due_at d k i) i vars ≡ Sound (after img p) counted
  pub next : Run left img end d k (i + 1) (after img p) counted m

-- A part that must stand does.
pub part_due : (left : ℕ) (img : List ℕ) (end d k i p vars m : ℕ) → (class_of (due_at d k i)).must ≡ true → Run left img end d k i p vars m → Part left img end d k i p vars m
part_due left img end d k i p vars m h (no_more e n c) = absurd (subst T (sym h ∙ n) tt)
part_due left img end d k i p vars m h (one_more n b z o e r) = record { before = b; within = o; counted = n; sound = e; next = r }

-- One that may stand does exactly where a byte is left.
pub part_left : (left : ℕ) (img : List ℕ) (end d k i p vars m : ℕ) → p < end → Run left img end d k i p vars m → Part left img end d k i p vars m
part_left left img end d k i p vars m h (no_more e n c) = absurd (omega arith)
part_left left img end d k i p vars m h (one_more n b z o e r) = record { before = b; within = o; counted = n; sound = e; next = r }

-- Where none is due, none stands.
pub no_part : (left : ℕ) (img : List ℕ) (end d k i p vars m : ℕ) → eqb (due_at d k i) 0 ≡ true → Run left img end d k i p vars m → (p ≡ end) × (m ≡ vars)
no_part left img end d k i p vars m h (no_more e n c) = (e, c)
no_part left img end d k i p vars m h (one_more n b z o e r) = absurd (subst T (sym h ∙ z) tt)

-- Where no byte is left, none stands.
pub no_byte : (left : ℕ) (img : List ℕ) (end d k i p vars m : ℕ) → end ≤ p → Run left img end d k i p vars m → m ≡ vars
no_byte left img end d k i p vars m h (no_more e n c) = c
no_byte left img end d k i p vars m h (one_more n b z o e r) = absurd (omega arith)

-- The count does not fall at a record that is no Function.
pub vars_grow : (d k vars : ℕ) → eqb k 19 ≡ false → vars ≤ vars_in_lem d k vars
unfolding vars_in_lem pick
vars_grow d k vars h = by (eqb k 19) (counts d k) h
  where
    by : (a b : Bool) → a ≡ false → vars ≤ pick a 0 (pick b (vars + 1) vars)
    by true b e = absurd (subst T e tt)
    by false true e = omega arith
    by false false e = omega arith

-- Name, Flag and Op have no parts.
abbrev pub Leaf : ℕ → Type 0
Leaf k = (from to : ℕ) → (start_of k from to ≡ to) × (eqb k 19 ≡ false)

-- So a sound one only takes its bytes.
pub leaf : (left : ℕ) (img : List ℕ) (at end d i vars q m : ℕ) → end ≤ length img → ((class_of d).low ≡ (class_of d).high) → Leaf (class_of d).low
    → record_of left img at end d i vars ≡ Sound q m → (at + 6 ≤ after img at) × (vars ≤ m)
leaf zero img at end d i vars q m h a b e = none_left img at end d i vars q m e
leaf (suc left) img at end d i vars q m h a b e =
    let w = stands left img at end d i vars q m h e in
    let k : (class_of d).low ≡ kind_at img at = omega (arith, w.low, w.high, a) in
    let c = subst Leaf k b (inside img at) (after img at) in
    let n = no_byte left img (after img at) d (kind_at img at) 0 _ _ m (omega (arith, c.0)) w.parts in
    (w.own, omega (arith, n, vars_grow d (kind_at img at) vars c.1))

-- A sound Name is short.
pub short : (left : ℕ) (img : List ℕ) (at end d i vars q m : ℕ) → end ≤ length img → (class_of d).low ≡ 1 → (class_of d).high ≡ 1 → record_of left img at end d i vars ≡ Sound q m
    → length (name_at img at) ≤ 64
short zero img at end d i vars q m h a b e = none_left img at end d i vars q m e
short (suc left) img at end d i vars q m h a b e = let w = stands left img at end d i vars q m h e in w.named (omega (arith, w.low, w.high, a, b))

leaf_part : (c left : ℕ) (img : List ℕ) (end d k j p n m : ℕ) → end ≤ length img → (class_of c).low ≡ (class_of c).high → Leaf (class_of c).low → (class_of c).must ≡ true
    → due_at d k j ≡ c → Run left img end d k j p n m → (a : Part left img end d k j p n m) × (p + 6 ≤ after img p) × (n ≤ a.counted)
leaf_part c left img end d k j p n m h x y t e r =
    let a = part_due left img end d k j p n m (ap (λ z. (class_of z).must) e ∙ t) r in
    let b = leaf left img p end c j n (after img p) a.counted h x y (subst (λ z. record_of left img p end z j n ≡ Sound (after img p) a.counted) e a.sound) in
    (a, b.0, b.1)

-- A Name as a part, and what stands behind it.
pub name_part : (left : ℕ) (img : List ℕ) (end d k j p n m : ℕ) → end ≤ length img → due_at d k j ≡ due.Name → Run left img end d k j p n m
    → (a : Part left img end d k j p n m) × (p + 6 ≤ after img p) × (n ≤ a.counted) × (length (name_at img p) ≤ 64)
unfolding start_of pick class_of classes
name_part left img end d k j p n m h e r =
    let (a, x, y) = leaf_part due.Name left img end d k j p n m h refl (λ from to. (refl, refl)) refl e r in
    (a, x, y, short left img p end due.Name j n (after img p) a.counted h refl refl (subst (λ z. record_of left img p end z j n ≡ Sound (after img p) a.counted) e a.sound))

-- A Flag.
pub flag_part : (left : ℕ) (img : List ℕ) (end d k j p n m : ℕ) → end ≤ length img → due_at d k j ≡ due.Flag → Run left img end d k j p n m
    → (a : Part left img end d k j p n m) × (p + 6 ≤ after img p) × (n ≤ a.counted)
unfolding start_of pick class_of classes
flag_part left img end d k j p n m h = leaf_part due.Flag left img end d k j p n m h refl (λ from to. (refl, refl)) refl

-- An Op.
pub op_part : (left : ℕ) (img : List ℕ) (end d k j p n m : ℕ) → end ≤ length img → due_at d k j ≡ due.Op → Run left img end d k j p n m
    → (a : Part left img end d k j p n m) × (p + 6 ≤ after img p) × (n ≤ a.counted)
unfolding start_of pick class_of classes
op_part left img end d k j p n m h = leaf_part due.Op left img end d k j p n m h refl (λ from to. (refl, refl)) refl

-- At the end of a List there is no place more, before it there is one.
pub places_end : (k : ℕ) (img : List ℕ) (p e : ℕ) → p ≡ e → places_from k img p e ≡ []
unfolding places_from
places_end zero img p e h = refl
places_end (suc k) img p e h = ap (λ (b : Bool). when b (λ _. p ∷ places_from k img (after img p) e) []) (le-ltb p e (omega arith))

pub places_more : (k : ℕ) (img : List ℕ) (p e : ℕ) → p < e → places_from (suc k) img p e ≡ (p ∷ places_from k img (after img p) e)
unfolding places_from
places_more k img p e h = ap (λ (b : Bool). when b (λ _. p ∷ places_from k img (after img p) e) []) (lt-ltb p e h)

-- A record's parts, its kind known.
pub of_kind : (left : ℕ) (img : List ℕ) (at end d i vars m k : ℕ) → kind_at img at ≡ k → Stands left img at end d i vars m
    → Run left img (after img at) d k 0 (start_of k (inside img at) (after img at)) (vars_in_lem d k vars) m
of_kind left img at end d i vars m k e w = subst (λ z. Run left img (after img at) d z 0 (start_of z (inside img at) (after img at)) (vars_in_lem d z vars) m) e w.parts

-- The records of a List are read whole, if it may hold no more than are read.
pub run_reads : (left : ℕ) (img : List ℕ) (end d fuel i p vars m : ℕ) → end ≤ length img → (class_of (class_of d).item).most ≤ fuel + i → Run left img end d 2 i p vars m → Reads img end p (places_from fuel img p end)
unfolding due_at pick
run_reads left img end d fuel i p vars m h b (no_more e n c) = subst (Reads img end p) (sym (places_end fuel img p end e)) (read_all e)
run_reads zero img end d zero i p vars m h b (one_more n l z o e r) = none_left img p end _ i vars (after img p) n e
run_reads (suc left) img end d zero i p vars m h b (one_more n l z o e r) = absurd (let w = stands left img p end _ i vars (after img p) n h e in omega (arith, w.room))
run_reads left img end d (suc fuel) i p vars m h b (one_more n l z o e r) =
    subst (Reads img end p) (sym (places_more fuel img p end l)) (read_one l (run_reads left img end d fuel (i + 1) (after img p) n m h (omega arith) r))
