-- Accesses that stand six bytes apart or more (02: P2).
-- Assumes nothing.
use Rattle.std.specs.Prelude.{List, [], ◌∷◌, ◌++◌, ◌≡◌, refl, ℕ, ◌+◌, ◌/◌, ◌≤◌}
use Rattle.std.proofs.Common.{arith}
use Rattle.rules.specs.Bytes.{name_at}
use Rattle.rules.specs.Read.{second}
use Rattle.rules.specs.Types.{Typ}
use Rattle.rules.specs.Refusal.{Res, ok, bad}
use Rattle.rules.specs.Meant.{Access, behind}
use Rattle.bounds.specs.Held.{Each}

-- They have no third of the image's places in common.
abbrev Far : Access → Access → Type 0
Far a b = a.place / 3 ≡ b.place / 3 → ⊥

-- No two of them.
abbrev pub Apart : List Access → Type 0
Apart [] = Unit {0}
Apart (a ∷ l) = Each (Far a) l × Apart l

-- They stand from p to e, no two at one place or near it, and each has the field that is read at its place.
pub record Sparse (img : List ℕ) (p e : ℕ) (l : List Access) : Type 0 where
  pub within : Each (λ (a : Access). (p ≤ a.place) × (a.place + 6 ≤ e)) l
  pub apart : Apart l
  pub named : Each (λ (a : Access). a.field ≡ name_at img (second img a.place)) l

-- None.
pub sparse_none : (img : List ℕ) (p e : ℕ) → Sparse img p e []
sparse_none img p e = record { within = tt; apart = tt; named = tt }

-- What stands in a part stands in the whole.
widen : (p q d e : ℕ) → p ≤ q → d ≤ e → (l : List Access) → Each (λ (a : Access). (q ≤ a.place) × (a.place + 6 ≤ d)) l → Each (λ (a : Access). (p ≤ a.place) × (a.place + 6 ≤ e)) l
widen p q d e g h [] w = tt
widen p q d e g h (a ∷ l) w = ((omega (arith, w.0.0), omega (arith, w.0.1)), widen p q d e g h l w.1)

pub sparse_in : {img : List ℕ} {p q d e : ℕ} {l : List Access} → p ≤ q → d ≤ e → Sparse img q d l → Sparse img p e l
sparse_in {img} {p} {q} {d} {e} {l} g h s = record { within = widen p q d e g h l s.within; apart = s.apart; named = s.named }

-- Two parts, one behind the other.
pub each_append : {A : Type 0} (P : A → Type 0) (l m : List A) → Each P l → Each P m → Each P (l ++ m)
each_append P [] m h g = g
each_append P (a ∷ l) m h g = (h.0, each_append P l m h.1 g)

far_all : (a : Access) (q e : ℕ) → a.place + 6 ≤ q → (k : List Access) → Each (λ (b : Access). (q ≤ b.place) × (b.place + 6 ≤ e)) k → Each (Far a) k
far_all a q e h [] w = tt
far_all a q e h (b ∷ k) w = (λ z. omega (arith, w.0.0, z), far_all a q e h k w.1)

apart_append : (p q e : ℕ) (l k : List Access) → Each (λ (a : Access). (p ≤ a.place) × (a.place + 6 ≤ q)) l → Apart l
    → Each (λ (b : Access). (q ≤ b.place) × (b.place + 6 ≤ e)) k → Apart k → Apart (l ++ k)
apart_append p q e [] k w a v b = b
apart_append p q e (x ∷ l) k w a v b = (each_append (Far x) l k a.0 (far_all x q e w.0.1 k v), apart_append p q e l k w.1 a.1 v b)

pub sparse_then : {img : List ℕ} {p q e : ℕ} {l k : List Access} → p ≤ q → q ≤ e → Sparse img p q l → Sparse img q e k → Sparse img p e (l ++ k)
sparse_then {img} {p} {q} {e} {l} {k} g h s t = record {
  within = each_append _ l k (widen p p q e (omega arith) h l s.within) (widen p q e e g (omega arith) k t.within);
  apart = apart_append p q e l k s.within s.apart t.within t.apart;
  named = each_append _ l k s.named t.named;
}

-- An access, behind those of its base.
far_last : (a : Access) (e : ℕ) (l : List Access) → Each (λ (b : Access). (a.place + 6 ≤ b.place) × (b.place + 6 ≤ e)) l → Apart l → Apart (l ++ (a ∷ []))
far_last a e [] w h = (tt, tt)
far_last a e (b ∷ l) w h = (each_append (Far b) l (a ∷ []) h.0 (λ z. omega (arith, w.0.0, z), tt), far_last a e l w.1 h.1)

one_more : (img : List ℕ) (a : Access) (e : ℕ) (l : List Access) → a.field ≡ name_at img (second img a.place) → a.place + 6 ≤ e → Sparse img (a.place + 6) e l → Sparse img a.place e (l ++ (a ∷ []))
one_more img a e l n h s = record {
  within = each_append _ l (a ∷ []) (widen a.place (a.place + 6) e e (omega arith) (omega arith) l s.within) ((omega arith, h), tt);
  apart = far_last a e l s.within s.apart;
  named = each_append _ l (a ∷ []) s.named (n, tt);
}

-- Behind an answer, if there is one.
pub sparse_behind : {A : Type 0} (img : List ℕ) (p e : ℕ) (m : Res A) (f : A → List Access) → ((a : A) → Sparse img p e (f a)) → Sparse img p e (behind m f)
unfolding behind
sparse_behind img p e (ok a) f h = h a
sparse_behind img p e (bad r) f h = sparse_none img p e

-- So an access stands, if analysis accepts its base and itself.
pub sparse_access : {A B : Type 0} (img : List ℕ) (p e : ℕ) (l : List Access) (m : Res A) (n : A → Res B) (f : A → Typ) → p + 6 ≤ e → Sparse img (p + 6) e l
    → Sparse img p e (l ++ behind m (λ a. behind (n a) (λ b. record { place = p; field = name_at img (second img p); base = f a } ∷ [])))
unfolding behind
sparse_access img p e l (bad r) n f h s = sparse_then (omega arith) (omega arith) (sparse_in {d = e} (omega arith) (omega arith) s) (sparse_none img e e)
sparse_access img p e l (ok a) n f h s = by (n a)
  where
    by : {B : Type 0} (r : Res B) → Sparse img p e (l ++ behind r (λ b. record { place = p; field = name_at img (second img p); base = f a } ∷ []))
    by (bad r) = sparse_then (omega arith) (omega arith) (sparse_in {d = e} (omega arith) (omega arith) s) (sparse_none img e e)
    by (ok b) = one_more img (record { place = p; field = name_at img (second img p); base = f a }) e l refl h s
