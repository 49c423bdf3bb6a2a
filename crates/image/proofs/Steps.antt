-- The steps of the check of a record: what its definition says at each way that the code goes.
-- Assumes nothing.
use Rattle.std.specs.Prelude.{}
use mathlib.Core.Path.{◌≡◌, ◌∙◌, refl, sym, subst}
use mathlib.Core.Bool.{Bool, true, false}
use mathlib.Core.List.{List, []}
use Prim.Native.Nat.{ℕ, zero, suc, ◌+◌, ◌-◌, ◌<◌}
use native.Mathlib.Omega.{arith}
use borrow.Author.Tests.{eq-eqb, ne_eqb, lt-leb, lt-ltb, le-ltb, ltb-true, ltb-false, eqb-true}
use lib.Dec.{T, eqb, ltb}
use Rattle.rules.specs.Bytes.{pick, kind_at, end_at, ◌or◌}
use Rattle.rules.specs.Grammar.{class_of, expressions, parts_of, part_of, due_at}
use Rattle.rules.specs.Check.{undue, counts, header_of, refusal_of, vars_in_lem, start_of, ended, Child, and_then, children_of, record_by, record_of}
use Rattle.rules.specs.Seen.{Sound, Fault}
use Rattle.image.specs.Leaves.{leaf}
use Rattle.image.specs.Within.{parts_in}
use Rattle.image.proofs.Every.{by_cases}
use Rattle.image.proofs.Header.{or_false, passed, sound_header}

module _ (s : List ℕ) (at end d i vars : ℕ) where
  -- a refused header is the answer
  pub record_refused :
      (left : ℕ) →
      (refusal_of (header_of s at end left d i vars) ≡ 0 → ⊥) →
      record_of left s at end d i vars ≡ Fault (refusal_of (header_of s at end left d i vars)) at
  unfolding pick record_of record_by
  record_refused zero h = rw (ne_eqb (refusal_of (header_of s at end 0 d i vars)) 0 h)
  record_refused (suc l) h = rw (ne_eqb (refusal_of (header_of s at end (suc l) d i vars)) 0 h)

  -- otherwise the children decide, with one level less
  pub record_open :
      (left : ℕ) →
      refusal_of (header_of s at end left d i vars) ≡ 0 →
      record_of left s at end d i vars ≡
      children_of (record_of (left - 1)) (suc (end_at s at - start_of (kind_at s at) (at + 6) (end_at s at))) s
      (start_of (kind_at s at) (at + 6) (end_at s at)) (end_at s at) d (kind_at s at) 0 (vars_in_lem d (kind_at s at) vars)
  unfolding pick record_of record_by
  record_open zero e = let h = sound_header s at end 0 d i vars e in absurd (omega arith)
  record_open (suc l) e =
      let p : suc l - 1 ≡ l = omega arith in
      rw (p, eq-eqb (refusal_of (header_of s at end (suc l) d i vars)) 0 e)

module _ (child : Child) (s : List ℕ) (p end d k i vars : ℕ) where
  pub parts_ended :
      (fuel : ℕ) → end - p < fuel → ended (due_at d k i) p end ≡ true → children_of child fuel s p end d k i vars ≡ Sound end vars
  unfolding pick children_of
  parts_ended zero h e = absurd (omega arith)
  parts_ended (suc f) h e = rw e

  pub parts_left :
      (fuel : ℕ) →
      end - p < fuel →
      ended (due_at d k i) p end ≡ false → due_at d k i ≡ 0 → children_of child fuel s p end d k i vars ≡ Fault 4 p
  unfolding pick children_of
  parts_left zero h e z = absurd (omega arith)
  parts_left (suc f) h e z = rw (e, eq-eqb (due_at d k i) 0 z)

  pub parts_then :
      (fuel : ℕ) →
      end - p < fuel →
      ended (due_at d k i) p end ≡ false →
      (due_at d k i ≡ 0 → ⊥) →
      children_of child fuel s p end d k i vars ≡ and_then (child s p end (due_at d k i) i vars) (λ q m. children_of child (fuel - 1) s q end d k (i + 1) m)
  unfolding pick children_of
  parts_then zero h e z = absurd (omega arith)
  parts_then (suc f) h e z =
      let o : suc f - 1 ≡ f = omega arith in
      rw (o, e, ne_eqb (due_at d k i) 0 z)

  pub parts_fault :
      (fuel : ℕ) →
      end - p < fuel →
      ended (due_at d k i) p end ≡ false →
      (due_at d k i ≡ 0 → ⊥) →
      (n q : ℕ) → child s p end (due_at d k i) i vars ≡ Fault n q → children_of child fuel s p end d k i vars ≡ Fault n q
  unfolding pick children_of and_then
  parts_fault zero h e z n q c = absurd (omega arith)
  parts_fault (suc f) h e z n q c = rw (e, ne_eqb (due_at d k i) 0 z, c)

  pub parts_more :
      (fuel : ℕ) →
      end - p < fuel →
      ended (due_at d k i) p end ≡ false →
      (due_at d k i ≡ 0 → ⊥) →
      (q m : ℕ) →
      child s p end (due_at d k i) i vars ≡ Sound q m →
      children_of child fuel s p end d k i vars ≡ children_of child (fuel - 1) s q end d k (i + 1) m
  unfolding pick children_of and_then
  parts_more zero h e z q m c = absurd (omega arith)
  parts_more (suc f) h e z q m c =
      let o : suc f - 1 ≡ f = omega arith in
      rw (o, e, ne_eqb (due_at d k i) 0 z, c)

-- Name, Flag, Op and Int: their bytes reach their end, nothing is due in them, and they count for nothing.
start_by : (a b c : Bool) (from to : ℕ) → pick a to (pick b from (pick c to from)) ≡ pick (pick a true (pick b false c)) to from
unfolding pick
start_by true b c from to = refl
start_by false true c from to = refl
start_by false false true from to = refl
start_by false false false from to = refl

start_is : (k from to : ℕ) → start_of k from to ≡ pick (leaf k) to from
unfolding start_of leaf
start_is k from to = start_by (eqb k 64) (eqb k 2) (ltb k 16) from to

none_low : (k : ℕ) → k < 16 → parts_of k ≡ []
unfolding pick parts_of
none_low k h = rw (lt-leb 64 k (omega arith), lt-leb 32 k (omega arith), lt-leb 16 k h)

int_due : (d : ℕ) → due_at d 64 0 ≡ 0
unfolding pick due_at part_of parts_of expressions
int_due d = refl

due_by : (d k : ℕ) (a b c : Bool) → eqb k 64 ≡ a → eqb k 2 ≡ b → ltb k 16 ≡ c → pick a true (pick b false c) ≡ true → due_at d k 0 ≡ 0
unfolding pick due_at part_of
due_by d k true b c x y z e = rw (eqb-true k 64 x) (int_due d)
due_by d k false true c x y z e = absurd (subst T (sym e) tt)
due_by d k false false false x y z e = absurd (subst T (sym e) tt)
due_by d k false false true x y z e = rw (y, none_low k (ltb-true k 16 z))

leaf_due : (d k : ℕ) → leaf k ≡ true → due_at d k 0 ≡ 0
unfolding leaf
leaf_due d k e = due_by d k (eqb k 64) (eqb k 2) (ltb k 16) refl refl refl e

module _ (k : ℕ) (e : leaf k ≡ true) where
  no_function : k ≡ 19 → ⊥
  unfolding leaf pick
  no_function z = subst T (sym (subst (λ (x : ℕ). leaf x ≡ true) z e)) tt

  no_let : k ≡ 32 → ⊥
  unfolding leaf pick
  no_let z = subst T (sym (subst (λ (x : ℕ). leaf x ≡ true) z e)) tt

  no_for : k ≡ 39 → ⊥
  unfolding leaf pick
  no_for z = subst T (sym (subst (λ (x : ℕ). leaf x ≡ true) z e)) tt

  no_field : k ≡ 17 → ⊥
  unfolding leaf pick
  no_field z = subst T (sym (subst (λ (x : ℕ). leaf x ≡ true) z e)) tt

pub apart : (k n : ℕ) → (k ≡ n → ⊥) → (ltb k n or ltb n k) ≡ true
apart k n z = by_cases ((ltb k n or ltb n k) ≡ true) k n (λ l. rw (lt-ltb k n (omega (arith, z)))) (λ l. rw (le-ltb k n (omega arith), lt-ltb n k l))

only : (k n : ℕ) → (ltb k n or ltb n k) ≡ false → k ≡ n
only k n e = let o = or_false (ltb k n) _ e in let a = ltb-false k n o.0 in let b = ltb-false n k o.1 in omega arith

no_param : (d k : ℕ) → leaf k ≡ true → undue d k ≡ false → d ≡ 22 → ⊥
unfolding undue class_of
no_param d k e u z = no_field k e (only k 17 (subst (λ (x : ℕ). undue x k ≡ false) z u))

leaf_vars : (d k n : ℕ) → leaf k ≡ true → undue d k ≡ false → vars_in_lem d k n ≡ n
unfolding pick vars_in_lem counts
leaf_vars d k n e u = rw (ne_eqb k 19 (no_function k e), ne_eqb d 22 (no_param d k e u), ne_eqb k 32 (no_let k e), ne_eqb k 39 (no_for k e))

leaf_children : (child : Child) (f : ℕ) (s : List ℕ) (end d k vars : ℕ) → leaf k ≡ true → children_of child (suc f) s end end d k 0 vars ≡ Sound end vars
unfolding pick children_of ended class_of
leaf_children child f s end d k vars e = rw (leaf_due d k e, eq-eqb end end refl)

module _ (s : List ℕ) (at end d i vars left : ℕ) (e : refusal_of (header_of s at end left d i vars) ≡ 0) where
  -- A sound leaf ends where it says, and counts for nothing.
  pub part_leaf : leaf (kind_at s at) ≡ true → record_of left s at end d i vars ≡ Sound (end_at s at) vars
  unfolding pick
  part_leaf l =
      record_open s at end d i vars left e
      ∙ rw (start_is (kind_at s at) (at + 6) (end_at s at), l, leaf_vars d (kind_at s at) vars l (passed s at end left d i vars e).2)
      (leaf_children (record_of (left - 1)) _ s (end_at s at) d (kind_at s at) vars l)

  -- Of any other record its parts decide.
  pub part_open :
      leaf (kind_at s at) ≡ false →
      record_of left s at end d i vars ≡ parts_in (left - 1) s (at + 6) (end_at s at) d (kind_at s at) (vars_in_lem d (kind_at s at) vars)
  unfolding pick parts_in
  part_open l = record_open s at end d i vars left e ∙ rw (start_is (kind_at s at) (at + 6) (end_at s at), l) refl
