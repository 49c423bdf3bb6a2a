-- What the check of a record comes to.
-- Assumes nothing.
use Rattle.std.specs.Prelude.{◌≡◌, ℕ, Result, Ok, Err}
use Rattle.std.proofs.Math.Path.{ap}

-- The place after it and the count of parameters, Lets and Fors so far; or the first fault: its number and its place.
abbrev pub Seen : Type 0
Seen = Result (ℕ × ℕ) (ℕ × ℕ)

pattern abbrev pub Sound : ℕ → ℕ → Seen
Sound end vars = Ok (end, vars)

pattern abbrev pub Fault : ℕ → ℕ → Seen
Fault number place = Err (number, place)

-- The two numbers of a sound one, those of d else.
abbrev pub end_of : ℕ × ℕ → Seen → ℕ × ℕ
end_of d (Ok x) = x
end_of d (Err x) = d

pub same_end : {q m r n : ℕ} → Sound q m ≡ Sound r n → q ≡ r
same_end {q} {m} e = ap (λ (x : Seen). (end_of (q, m) x).0) e

pub same_vars : {q m r n : ℕ} → Sound q m ≡ Sound r n → m ≡ n
same_vars {q} {m} e = ap (λ (x : Seen). (end_of (q, m) x).1) e
