-- What holds of an answer, if there is one.
-- Assumes nothing.
use Rattle.std.specs.Prelude.{◌≡◌, refl, Bool, true, false, None, Option, Some}
use Rattle.rules.specs.Bytes.{pick}
use Rattle.rules.specs.Refusal.{Refusal, Res, ok, bad, ◌>>=◌, known, unless}

-- A data type and not a function of the answer: so P is found wherever `All P m` stands.
pub data All {A : Type 0} (P : A → Type 0) : Res A → Type 0 where
  all_ok : (a : A) → P a → All P (ok a)
  all_bad : (r : Refusal) → All P (bad r)

-- What is known of any answer is known of this one.
pub from_ok : {A : Type 0} {P : A → Type 0} {a : A} → All P (ok a) → P a
from_ok (all_ok a p) = p

-- First one answer, then the next.
pub all_bind : {A B : Type 0} {P : A → Type 0} {Q : B → Type 0} (m : Res A) (f : A → Res B)
    → All P m → ((a : A) → P a → All Q (f a)) → All Q (m >>= f)
unfolding ◌>>=◌
all_bind m f (all_ok a p) k = k a p
all_bind m f (all_bad r) k = all_bad r

-- Whatever the first answer is.
pub all_next : {A B : Type 0} {Q : B → Type 0} (m : Res A) (f : A → Res B) → ((a : A) → All Q (f a)) → All Q (m >>= f)
unfolding ◌>>=◌
all_next (ok a) f k = k a
all_next (bad r) f k = all_bad r

-- Either way of a test.
pub all_pick : {A : Type 0} {P : A → Type 0} (b : Bool) (x y : Res A) → All P x → All P y → All P (pick b x y)
unfolding pick
all_pick true x y p q = p
all_pick false x y p q = q

-- The same, knowing how the test came out.
pub all_test : {A : Type 0} {P : A → Type 0} (b : Bool) (x y : Res A) → (b ≡ true → All P x) → (b ≡ false → All P y) → All P (pick b x y)
unfolding pick
all_test true x y p q = p refl
all_test false x y p q = q refl

-- What was looked up, if it was found.
pub all_known : {A : Type 0} {P : A → Type 0} (r : Refusal) (o : Option A) → ((a : A) → o ≡ Some a → P a) → All P (known r o)
unfolding known
all_known r None k = all_bad r
all_known r (Some a) k = all_ok a (k a refl)

-- Where the test did not refuse.
pub all_unless : {A : Type 0} {P : A → Type 0} (b : Bool) (r : Refusal) (a : A) → (b ≡ false → P a) → All P (unless b r a)
unfolding unless
all_unless true r a k = all_bad r
all_unless false r a k = all_ok a (k refl)

-- What follows from what is known.
pub all_map : {A : Type 0} {P Q : A → Type 0} {m : Res A} → All P m → ((a : A) → P a → Q a) → All Q m
all_map (all_ok a p) f = all_ok a (f a p)
all_map (all_bad r) f = all_bad r
