-- What a sound record is: where it stands, that its kind was due and no bound passed, and its parts in turn with the count of
-- parameters, Lets and Fors running through them.
-- Assumes nothing.
use Rattle.std.specs.Prelude.{◌≡◌, refl, Bool, true, false, not, List, ℕ, zero, suc, ◌+◌, ◌-◌, ◌≤◌, ◌<◌, T, ltb, leb, eqb, length, drop}
use Rattle.std.proofs.Common.{sym, subst, arith, ltb-false, leb-false, eqb-true, length-take}
use Rattle.std.proofs.Math.Nat.{min-le_left}
use Rattle.rules.specs.Seen.{Seen, Sound, Fault, same_vars}
use Rattle.rules.specs.Bytes.{pick, le32, kind_at, end_at, name_from, inside, after, name_at, ◌or◌, ◌and◌}
use Rattle.rules.specs.Grammar.{class_of, due_at}
use Rattle.rules.specs.Check.{unframed, undue, counts, crowded, own_of, header_of, refusal_of, vars_in_lem, start_of, ended, and_then, children_of, record_by, record_of}
use Rattle.rules.specs.Joined.{found}

-- The parts from the i-th on, the first of them at p, of a record of kind k that ends at `end`, where d was due: each is sound and the next
-- stands behind it; the count goes from vars to m.
pub data Run (left : ℕ) (img : List ℕ) (end d k : ℕ) : (i p vars m : ℕ) → Type 0 where
  no_more : {i p vars m : ℕ} → p ≡ end → (class_of (due_at d k i)).must ≡ false → m ≡ vars → Run left img end d k i p vars m
  one_more : {i p vars m : ℕ} (n : ℕ) → p < end → eqb (due_at d k i) 0 ≡ false → after img p ≤ end
      → record_of left img p end (due_at d k i) i vars ≡ Sound (after img p) n → Run left img end d k (i + 1) (after img p) n m → Run left img end d k i p vars m

-- A sound record with `left` levels left for its parts.
pub record Stands (left : ℕ) (img : List ℕ) (at end d i vars m : ℕ) : Type 0 where
  pub payload : inside img at ≡ at + 6
  pub own : at + 6 ≤ after img at
  pub within : after img at ≤ end
  pub low : (class_of d).low ≤ kind_at img at
  pub high : kind_at img at ≤ (class_of d).high
  pub room : i < (class_of d).most
  pub few : counts d (kind_at img at) ≡ true → vars < 512
  pub named : kind_at img at ≡ 1 → length (name_at img at) ≤ 64
  pub parts : Run left img (after img at) d (kind_at img at) 0 (start_of (kind_at img at) (inside img at) (after img at)) (vars_in_lem d (kind_at img at) vars) m

-- A fault is not sound.
pub clash : {A : Type 0} {q m n p : ℕ} → Fault n p ≡ Sound q m → A
clash e = absurd (let z : ◌≡◌ {A = ℕ} 0 1 = cc in omega arith)

-- What tests say.
or_false : (a b : Bool) → (a or b) ≡ false → (a ≡ false) × (b ≡ false)
or_false true b e = absurd (subst T e tt)
or_false false b e = (refl, e)

and_true : (a b : Bool) → (a and b) ≡ true → (a ≡ true) × (b ≡ true)
and_true true b e = (refl, e)
and_true false b e = absurd (subst T (sym e) tt)

not_true : (a : Bool) → not a ≡ true → a ≡ false
not_true true e = absurd (subst T (sym e) tt)
not_true false e = refl

first : (b : Bool) (n rest : ℕ) → pick b (suc n) rest ≡ 0 → (b ≡ false) × (rest ≡ 0)
unfolding pick
first true n rest e = absurd (omega arith)
first false n rest e = (refl, e)

-- A header that is not refused.
record Header (img : List ℕ) (at end d i vars left : ℕ) : Type 0 where
  framed : 4 + le32 img at ≤ end - at
  level : eqb left 0 ≡ false
  low : (class_of d).low ≤ kind_at img at
  high : kind_at img at ≤ (class_of d).high
  room : i < (class_of d).most
  few : counts d (kind_at img at) ≡ true → vars < 512
  named : kind_at img at ≡ 1 → end_at img at - (at + 6) ≤ 64

under : (a b : Bool) → (a and b) ≡ false → a ≡ true → b ≡ false
under true b e f = e
under false b e f = absurd (subst T (sym f) tt)

-- A Name has 64 bytes at most.
short : (img : List ℕ) (from to : ℕ) → not (own_of img from to 1) ≡ false → to - from ≤ 64
unfolding own_of pick
short img from to e = by (eqb (to - from) 0) (ltb 64 (to - from)) (name_from img from (to - from)) refl e
  where
    by : (a b c : Bool) → ltb 64 (to - from) ≡ b → not (pick (a or b) false c) ≡ false → to - from ≤ 64
    by true b c f g = absurd (subst T g tt)
    by false true c f g = absurd (subst T g tt)
    by false false c f g = ltb-false 64 (to - from) f

-- From the check's first tests.
header : (img : List ℕ) (at end left d i vars : ℕ) → refusal_of (header_of img at end left d i vars) ≡ 0 → Header img at end d i vars left
unfolding refusal_of header_of unframed undue crowded
header img at end left d i vars e =
    let a = first (unframed img at end) 1 _ e in
    let b = first (eqb left 0) 5 _ a.1 in
    let c = first (undue d (kind_at img at)) 2 _ b.1 in
    let f = first (crowded d (kind_at img at) i vars) 6 _ c.1 in
    let n = first (not (own_of img (at + 6) (end_at img at) (kind_at img at))) 4 _ f.1 in
    let u = or_false (ltb (kind_at img at) (class_of d).low) _ c.0 in
    let r = or_false (leb (class_of d).most i) _ f.0 in
    let o = or_false (ltb (end - at) 6) _ a.0 in
    let v = or_false (ltb (le32 img at) 2) _ o.1 in
    record {
      framed = ltb-false _ _ v.1;
      level = b.0;
      low = ltb-false _ _ u.0;
      high = ltb-false _ _ u.1;
      room = leb-false _ _ r.0;
      few = λ t. leb-false 512 vars (under (counts d (kind_at img at)) _ r.1 t);
      named = λ k. short img (at + 6) (end_at img at) (subst (λ z. not (own_of img (at + 6) (end_at img at) z) ≡ false) k n.0);
    }

-- The children are looked at only behind a header that is not refused.
chosen : (b : Bool) (x : Seen) (n p q m : ℕ) → pick b x (Fault n p) ≡ Sound q m → (b ≡ true) × (x ≡ Sound q m)
unfolding pick
chosen true x n p q m e = (refl, e)
chosen false x n p q m e = clash e

-- The parts, from the check of a record's children.
run_by : (left : ℕ) (img : List ℕ) (p end d k i vars q m : ℕ) (ends none : Bool) (a : Seen) (rest : ℕ → ℕ → Seen) → end ≤ length img
    → ended (due_at d k i) p end ≡ ends → eqb (due_at d k i) 0 ≡ none → record_of left img p end (due_at d k i) i vars ≡ a
    → ((r n : ℕ) → rest r n ≡ Sound q m → Run left img end d k (i + 1) r n m)
    → pick ends (Sound end vars) (pick none (Fault 4 p) (and_then a rest)) ≡ Sound q m → Run left img end d k i p vars m
unfolding pick and_then ended
run_by left img p end d k i vars q m true none a rest h x z y g e =
    let b = and_true (eqb p end) _ x in let f = sym (same_vars e) in no_more (eqb-true p end b.0) (not_true _ b.1) f
run_by left img p end d k i vars q m false true a rest h x z y g e = clash e
run_by left img p end d k i vars q m false false (Sound r n) rest h x z y g e =
    let w = found left img p end (due_at d k i) i vars r n h y in
    let b : p < end = omega (arith, w.own, w.within) in
    let o : after img p ≤ end = omega (arith, w.next, w.within) in
    one_more {p = p} n b z o (subst (λ t. record_of left img p end (due_at d k i) i vars ≡ Sound t n) w.next y) (subst (λ t. Run left img end d k (i + 1) t n m) w.next (g r n e))
run_by left img p end d k i vars q m false false (Fault r n) rest h x z y g e = clash e

-- From the whole of them.
run_of : (left fuel : ℕ) (img : List ℕ) (p end d k i vars q m : ℕ) → end ≤ length img → children_of (record_of left) fuel img p end d k i vars ≡ Sound q m → Run left img end d k i p vars m
unfolding children_of
run_of left zero img p end d k i vars q m h e = clash e
run_of left (suc f) img p end d k i vars q m h e =
    run_by left img p end d k i vars q m (ended (due_at d k i) p end) (eqb (due_at d k i) 0) (record_of left img p end (due_at d k i) i vars)
    (λ r n. children_of (record_of left) f img r end d k (i + 1) n) h refl refl refl (λ r n g. run_of left f img r end d k (i + 1) n q m h g) e

-- No record is sound where no level is left.
pub none_left : {A : Type 0} (img : List ℕ) (at end d i vars q m : ℕ) → record_of 0 img at end d i vars ≡ Sound q m → A
unfolding record_of record_by
none_left img at end d i vars q m e =
    let c = chosen (eqb (refusal_of (header_of img at end 0 d i vars)) 0) _ _ at q m e in
    let h = header img at end 0 d i vars (eqb-true _ 0 c.0) in
    absurd (subst T h.level tt)

-- What a sound record with a level left is.
pub stands : (left : ℕ) (img : List ℕ) (at end d i vars q m : ℕ) → end ≤ length img → record_of (suc left) img at end d i vars ≡ Sound q m → Stands left img at end d i vars m
unfolding record_of record_by inside after name_at
stands left img at end d i vars q m h e =
    let c = chosen (eqb (refusal_of (header_of img at end (suc left) d i vars)) 0) _ _ at q m e in
    let o = header img at end (suc left) d i vars (eqb-true _ 0 c.0) in
    let w = found (suc left) img at end d i vars q m h e in
    let n : end_at img at ≡ after img at = omega (arith, o.framed, w.own, w.within, h) in
    let g : end_at img at ≤ length img = omega (arith, w.within, w.next, n) in
    let r = run_of left _ img _ (end_at img at) d (kind_at img at) 0 _ q m g c.1 in
    record {
      payload = w.payload;
      own = omega (arith, w.own, w.next);
      within = omega (arith, w.within, w.next);
      low = o.low;
      high = o.high;
      room = o.room;
      few = o.few;
      named = λ k. omega (arith, o.named k, n, w.payload, length-take (after img at - inside img at) (drop (inside img at) img), min-le_left (after img at - inside img at) (length (drop (inside img at) img)));
      parts = subst (λ z. Run left img z d (kind_at img at) 0 (start_of (kind_at img at) (inside img at) z) (vars_in_lem d (kind_at img at) vars) m) n
          (subst (λ z. Run left img (end_at img at) d (kind_at img at) 0 (start_of (kind_at img at) z (end_at img at)) (vars_in_lem d (kind_at img at) vars) m) (sym w.payload) r);
    }
