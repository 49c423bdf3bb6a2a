-- Refusals of which Q holds: the steps of `Res`, the check, and what Q is asked at: places and names of a checked image.
--     Said        an answer of which P holds, or a refusal of which Q holds
--     Allows      Q holds of each refusal behind the check, at the places and the names that the image has: of analysis and 30, of generation
--     check_said  rows 1 to 7
-- Assumes nothing.
use Rattle.std.specs.Prelude.{◌≡◌, refl, Bool, List, T, ltb, eqb, length, None, Option, Some}
use Rattle.std.proofs.Common.{subst, eqb-true, ltb-false}
use Rattle.std.proofs.Math.Bool.{true, false}
use Prim.Native.Nat.{ℕ, zero, suc, ◌+◌, ◌-◌, ◌≤◌}
use native.Mathlib.Omega.{arith}
use Rattle.std.proofs.lemmas.Bool.{eqb-false}
use Rattle.rules.specs.Seen.{Seen, Sound, Fault}
use Rattle.rules.specs.Bytes.{pick, Name, le32, kind_at, end_at, ◌or◌}
use Rattle.rules.specs.Grammar.{due_at}
use Rattle.rules.specs.Check.{unframed, header_of, refusal_of, start_of, Child, and_then, children_of, record_by, record_of, whole_of, check_of}
use Rattle.rules.specs.Types.{Typ}
use Rattle.rules.specs.Refusal.{Refusal, Res, ok, bad, ◌>>=◌, known, unless}
use Rattle.rules.specs.Build.{passed}
use Rattle.bounds.specs.Answers.{All, all_ok, all_bad}
use Rattle.bounds.specs.Held.{Opt}
use Rattle.bounds.specs.Whole.{Short, Here, Named}

pub data Said {A : Type 0} (Q : Refusal → Type 0) (P : A → Type 0) : Res A → Type 0 where
  said_ok : (a : A) → P a → Said Q P (ok a)
  said_bad : (r : Refusal) → Q r → Said Q P (bad r)

-- Nothing is said of the answer.
abbrev pub Any : (A : Type 0) → A → Type 0
Any A a = Unit {0}

module _ {A : Type 0} {Q : Refusal → Type 0} {P : A → Type 0} where
  -- First one answer, then the next.
  pub said_then : {B : Type 0} {O : B → Type 0} (m : Res B) (f : B → Res A) → Said Q O m → ((b : B) → O b → Said Q P (f b)) → Said Q P (m >>= f)
  unfolding ◌>>=◌
  said_then m f (said_ok b h) k = k b h
  said_then m f (said_bad r h) k = said_bad r h

  pub said_pick : (b : Bool) (x y : Res A) → Said Q P x → Said Q P y → Said Q P (pick b x y)
  unfolding pick
  said_pick true x y p q = p
  said_pick false x y p q = q

  pub said_known : (r : Refusal) (o : Option A) → Q r → Opt P o → Said Q P (known r o)
  unfolding known
  said_known r (Some a) h g = said_ok a g
  said_known r None h g = said_bad r h

  pub said_unless : (b : Bool) (r : Refusal) (a : A) → Q r → P a → Said Q P (unless b r a)
  unfolding unless
  said_unless true r a h g = said_bad r h
  said_unless false r a h g = said_ok a g

  -- What is refused, of an answer that is known.
  pub said_of : {m : Res A} {r : Refusal} → Said Q P m → m ≡ bad r → Q r
  said_of {m} {r} (said_ok a h) e = absurd (let z : ◌≡◌ {A = ℕ} 0 1 = cc in omega arith)
  said_of {m} {r} (said_bad q h) e = subst Q (let z : q ≡ r = cc in z) h

pub said_found : {A : Type 0} {Q : Refusal → Type 0} (r : Refusal) (o : Option A) → Q r → Said Q (Any A) (known r o)
unfolding known
said_found r (Some a) h = said_ok a tt
said_found r None h = said_bad r h

-- What holds of the answer, whatever the refusals are.
pub said_all : {A : Type 0} {Q : Refusal → Type 0} {P : A → Type 0} {m : Res A} → Said Q P m → All P m
said_all (said_ok a h) = all_ok a h
said_all (said_bad r h) = all_bad r

-- A type whose name is short.
abbrev pub ShortType : Typ → Type 0
ShortType Typ.u64 = Unit {0}
ShortType Typ.bool = Unit {0}
ShortType Typ.field = Unit {0}
ShortType Typ.void = Unit {0}
ShortType Typ.unknown = Unit {0}
ShortType (Typ.struct x) = Short x

-- Q holds of every refusal that analysis and 30 can give.
pub record AllowsFront (img : List ℕ) (Q : Refusal → Type 0) : Type 0 where
  pub undefined_name : (p : ℕ) (x : Name) → Named img p x → Q (Refusal.undefined_name p x)
  pub undefined_target : (p : ℕ) (x : Name) → Named img p x → Q (Refusal.undefined_target p x)
  pub assign_type : (p : ℕ) (a b : Typ) → Here img p → ShortType a → ShortType b → Q (Refusal.assign_type p a b)
  pub return_type : (p : ℕ) (a b : Typ) → Here img p → ShortType a → ShortType b → Q (Refusal.return_type p a b)
  pub no_field : (p : ℕ) (s x : Name) → Here img p → Short s → Short x → Q (Refusal.no_field p s x)
  pub not_struct : (p : ℕ) → Here img p → Q (Refusal.not_struct p)
  pub init_type : (p : ℕ) (x : Name) → Named img p x → Q (Refusal.init_type p x)
  pub init_field : (p : ℕ) (x : Name) → Named img p x → Q (Refusal.init_field p x)
  pub no_struct : (p : ℕ) (x : Name) → Named img p x → Q (Refusal.no_struct p x)
  pub arg_count : (p : ℕ) (f : Name) (a b : ℕ) → Named img p f → Q (Refusal.arg_count p f a b)
  pub arg_type : (p i : ℕ) (f : Name) → Here img p → Short f → Q (Refusal.arg_type p i f)
  pub no_function : (p : ℕ) (f : Name) → Named img p f → Q (Refusal.no_function p f)
  pub operands : (p : ℕ) → Here img p → Q (Refusal.operands p)
  pub ambiguous : (p : ℕ) → Here img p → Q (Refusal.ambiguous p)

-- Q holds of every refusal that generation can give.
pub record AllowsGeneration (img : List ℕ) (Q : Refusal → Type 0) : Type 0 where
  pub no_main : Q Refusal.no_main
  pub exhausted : (p : ℕ) → Here img p → Q (Refusal.exhausted p)
  pub unread : (p : ℕ) (x : Name) → Named img p x → Q (Refusal.unread p x)
  pub unassigned : (p : ℕ) (x : Name) → Named img p x → Q (Refusal.unassigned p x)
  pub storage_unwritten : (p : ℕ) (x : Name) → Named img p x → Q (Refusal.storage_unwritten p x)
  pub mapping_unwritten : (p : ℕ) (x : Name) → Named img p x → Q (Refusal.mapping_unwritten p x)
  pub storage_unread : (p : ℕ) (x : Name) → Named img p x → Q (Refusal.storage_unread p x)
  pub mapping_unread : (p : ℕ) (x : Name) → Named img p x → Q (Refusal.mapping_unread p x)

-- Of all behind the check.
pub record Allows (img : List ℕ) (Q : Refusal → Type 0) : Type 0 where
  pub front : AllowsFront img Q
  pub generation : AllowsGeneration img Q

-- Q holds of rows 1 to 7.
abbrev pub AllowsFaults : (Refusal → Type 0) → Type 0
AllowsFaults Q = (n p : ℕ) → 1 ≤ n → n ≤ 7 → p ≤ 65536 → Q (Refusal.fault n p)

-- The check: a record's end, or its fault's place, is at most m, and a fault is one of the seven.
abbrev Low : ℕ → Seen → Type 0
Low m (Sound q v) = q ≤ m
Low m (Fault n p) = (1 ≤ n) × (n ≤ 7) × (p ≤ m)

low_test : (m : ℕ) (b : Bool) (x y : Seen) → (b ≡ true → Low m x) → (b ≡ false → Low m y) → Low m (pick b x y)
unfolding pick
low_test m true x y p q = p refl
low_test m false x y p q = q refl

low_then : (m : ℕ) (x : Seen) (f : ℕ → ℕ → Seen) → Low m x → ((q v : ℕ) → q ≤ m → Low m (f q v)) → Low m (and_then x f)
unfolding and_then
low_then m (Sound q v) f h k = k q v h
low_then m (Fault n p) f h k = h

pick_below : (b : Bool) (x y : ℕ) → x ≤ 7 → y ≤ 7 → pick b x y ≤ 7
unfolding pick
pick_below true x y h g = h
pick_below false x y h g = g

-- Behind the first test a record ends within its parent.
or_false : (a b : Bool) → (a or b) ≡ false → (a ≡ false) × (b ≡ false)
or_false true b e = absurd (subst T e tt)
or_false false b e = (refl, e)

first : (b : Bool) (rest : ℕ) → pick b 2 rest ≡ 0 → b ≡ false
unfolding pick
first true rest e = absurd (omega arith)
first false rest e = refl

framed : (s : List ℕ) (at end left d i vars : ℕ) → refusal_of (header_of s at end left d i vars) ≡ 0 → (end_at s at ≤ end) × (at + 6 ≤ end_at s at)
unfolding refusal_of header_of unframed
framed s at end left d i vars e =
    let o : (ltb (end - at) 6 ≡ false) × ((ltb (le32 s at) 2 or ltb (end - at) (4 + le32 s at)) ≡ false) = or_false _ _ (first (unframed s at end) _ e) in
    let v = or_false (ltb (le32 s at) 2) (ltb (end - at) (4 + le32 s at)) o.1 in
    (omega (arith, ltb-false (end - at) 6 o.0, ltb-false (end - at) (4 + le32 s at) v.1), omega (arith, ltb-false (le32 s at) 2 v.0))

numbered : (s : List ℕ) (at end left d i vars : ℕ) → refusal_of (header_of s at end left d i vars) ≤ 7
unfolding refusal_of header_of
numbered s at end left d i vars =
    pick_below _ _ _ (omega arith) (pick_below _ _ _ (omega arith) (pick_below _ _ _ (omega arith) (pick_below _ _ _ (omega arith) (pick_below _ _ _ (omega arith) (omega arith)))))

positive : (n : ℕ) → eqb n 0 ≡ false → 1 ≤ n
positive n e = omega (arith, eqb-false n 0 e)

start_low : (k from to : ℕ) → from ≤ to → start_of k from to ≤ to
unfolding start_of pick
start_low k from to h = by (eqb k 64) (eqb k 2) (ltb k 16)
  where
    by : (a b c : Bool) → pick a to (pick b from (pick c to from)) ≤ to
    by true b c = omega arith
    by false true c = h
    by false false true = omega arith
    by false false false = h

module _ (m : ℕ) where
  module _ (child : Child) (low : (s : List ℕ) (at end d i vars : ℕ) → at ≤ m → end ≤ m → Low m (child s at end d i vars)) where
    children_low : (fuel : ℕ) (s : List ℕ) (p end d k i vars : ℕ) → p ≤ m → end ≤ m → Low m (children_of child fuel s p end d k i vars)
    unfolding children_of
    children_low zero s p end d k i vars h g = (omega arith, omega arith, h)
    children_low (suc fuel) s p end d k i vars h g =
        low_test m _ _ _ (λ e. g) (λ e. low_test m _ _ _ (λ f. (omega arith, omega arith, h))
        (λ f. low_then m _ _ (low s p end (due_at d k i) i vars h g) (λ q v z. children_low fuel s q end d k (i + 1) v z g)))

    record_low : (left : ℕ) (s : List ℕ) (at end d i vars : ℕ) → at ≤ m → end ≤ m → Low m (record_by child left s at end d i vars)
    unfolding record_by
    record_low left s at end d i vars h g = low_test m _ _ _
        (λ e. let z = framed s at end left d i vars (eqb-true _ 0 e) in
        let n : end_at s at ≤ m = omega (arith, z.0) in
        children_low _ s _ _ d _ 0 _ (omega (arith, start_low (kind_at s at) (at + 6) (end_at s at) z.1, n)) n)
        (λ e. (positive (refusal_of (header_of s at end left d i vars)) e, numbered s at end left d i vars, h))

  records_low : (left : ℕ) (s : List ℕ) (at end d i vars : ℕ) → at ≤ m → end ≤ m → Low m (record_of left s at end d i vars)
  unfolding record_of
  records_low zero = record_low (λ s at end d i vars. Fault 6 at) (λ s at end d i vars h g. (omega arith, omega arith, h)) zero
  records_low (suc left) = record_low (record_of left) (records_low left) (suc left)

  whole_low : (img : List ℕ) (x : Seen) → Low m x → Low m (whole_of img x)
  unfolding whole_of
  whole_low img (Sound q v) h = low_test m _ _ _ (λ e. (omega arith, omega arith, h)) (λ e. h)
  whole_low img (Fault n p) h = h

check_low : (img : List ℕ) → Low 65536 (check_of img)
unfolding check_of
check_low img = low_test 65536 _ _ _ (λ e. (omega arith, omega arith, omega arith))
    (λ e. let h = ltb-false _ _ e in whole_low 65536 img (record_of 64 img 0 (length img) 1 0 0) (records_low 65536 64 img 0 (length img) 1 0 0 (omega arith) h))

-- Rows 1 to 7: the number and the place of a fault; else the check was passed.
pub check_said : (img : List ℕ) (Q : Refusal → Type 0) → AllowsFaults Q
    → Said Q (λ (u : Unit {0}). (q : ℕ) × (m : ℕ) × (check_of img ≡ Sound q m)) (passed (check_of img))
unfolding passed
check_said img Q f = by (check_of img) refl (check_low img)
  where
    by : (x : Seen) → check_of img ≡ x → Low 65536 x → Said Q (λ (u : Unit {0}). (q : ℕ) × (m : ℕ) × (check_of img ≡ Sound q m)) (passed x)
    by (Sound q m) e h = said_ok tt (q, m, e)
    by (Fault n p) e h = said_bad (Refusal.fault n p) (f n p h.0 h.1 h.2)
