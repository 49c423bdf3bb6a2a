-- How answers that may be refused are put together.
-- Assumes nothing.
use Rattle.std.specs.Prelude.{Bool, true, false, ◌≡◌, refl, ℕ, None, Option, Some, Result, Ok, Err, IsErrAnd, ok_or}
use Rattle.std.proofs.Common.{arith, ap}
use Rattle.rules.specs.Refusal.{Refusal, Res, ok, bad, ◌>>=◌, known, unless}

-- a step that is refused, and one that is not
pub then_bad : {A B : Type 0} {m : Res A} {r : Refusal} (k : A → Res B) → bad r ≡ m → bad r ≡ (m >>= k)
unfolding ◌>>=◌
then_bad k h = rw (← h)

pub then_ok : {A B : Type 0} {m : Res A} {a : A} {o : Res B} (k : A → Res B) → ok a ≡ m → o ≡ k a → o ≡ (m >>= k)
unfolding ◌>>=◌
then_ok k h e = rw (← h) e

pub known_some : {A : Type 0} {o : Option A} {a : A} (r : Refusal) → Some a ≡ o → ok a ≡ known r o
unfolding known
known_some r h = rw (← h)

pub known_none : {A : Type 0} {o : Option A} (r : Refusal) → None ≡ o → bad r ≡ known r o
unfolding known
known_none r h = rw (← h)

pub unless_bad : {A : Type 0} {b t : Bool} (r : Refusal) (a : A) → b ≡ t → b ≡ true → bad r ≡ unless t r a
unfolding unless
unless_bad r a h e = rw (← h, e)

pub unless_ok : {A : Type 0} {b t : Bool} (r : Refusal) (a : A) → b ≡ t → b ≡ false → ok a ≡ unless t r a
unfolding unless
unless_ok r a h e = rw (← h, e)

-- what is found, or else a refusal
pub ok_or_some : {T E : Type 0} (o : Option T) (e : E) {x : T} → Ok x ≡ ok_or o e → Some x ≡ o
ok_or_some None e h = absurd (let z : ◌≡◌ {A = ℕ} 0 1 = cc in omega arith)
ok_or_some (Some y) e h = cc

pub ok_or_none : {T E : Type 0} (o : Option T) (e : E) {f : E} → Err f ≡ ok_or o e → (None ≡ o) × (f ≡ e)
ok_or_none None e h = (refl, cc)
ok_or_none (Some y) e h = absurd (let z : ◌≡◌ {A = ℕ} 0 1 = cc in omega arith)

-- what `?` hands on
pub handed_on : {T E : Type 0} (r : Result T E) (e : E) → IsErrAnd r (λ y. y ≡ e) → r ≡ Err e
handed_on (Ok x) e h = absurd h
handed_on (Err y) e h = ap Err h
