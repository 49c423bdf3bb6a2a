-- Sound parts reach the record's end; so the last part of a record that ends where the record does decides alone.
-- Assumes nothing.
use Rattle.std.specs.Prelude.{}
use mathlib.Core.Path.{◌≡◌, ◌∙◌, refl, sym, ap}
use mathlib.Core.Bool.{Bool, true, false}
use mathlib.Core.List.{List}
use Prim.Native.Nat.{ℕ, zero, suc, ◌+◌}
use lib.Dec.{eqb}
use Rattle.rules.specs.Bytes.{pick}
use Rattle.rules.specs.Grammar.{due_at}
use Rattle.rules.specs.Check.{ended, Child, and_then, children_of}
use Rattle.rules.specs.Seen.{Seen, Sound, Fault}

abbrev pub Reaches : ℕ → Seen → Type 0
Reaches end (Sound q m) = q ≡ end
Reaches end (Fault number place) = Unit {0}

pick_reaches : (end : ℕ) (b : Bool) (x y : Seen) → Reaches end x → Reaches end y → Reaches end (pick b x y)
unfolding pick
pick_reaches end true x y f g = f
pick_reaches end false x y f g = g

then_reaches : (end : ℕ) (x : Seen) (f : ℕ → ℕ → Seen) → ((q m : ℕ) → Reaches end (f q m)) → Reaches end (and_then x f)
unfolding and_then
then_reaches end (Sound q m) f h = h q m
then_reaches end (Fault number place) f h = tt

pub reaches : (child : Child) (fuel : ℕ) (s : List ℕ) (p end d k i vars : ℕ) → Reaches end (children_of child fuel s p end d k i vars)
unfolding children_of
reaches child zero s p end d k i vars = tt
reaches child (suc fuel) s p end d k i vars =
    pick_reaches end (ended (due_at d k i) p end) (Sound end vars) _ refl
    (pick_reaches end (eqb (due_at d k i) 0) (Fault 4 p) _ tt
    (then_reaches end (child s p end (due_at d k i) i vars) (λ q m. children_of child fuel s q end d k (i + 1) m) (λ q m. reaches child fuel s q end d k (i + 1) m)))

-- What goes on from there with the count alone is left off.
pub tail_is : (end : ℕ) (x : Seen) (f : ℕ → ℕ → Seen) → Reaches end x → ((m : ℕ) → f end m ≡ Sound end m) → and_then x f ≡ x
unfolding and_then
tail_is end (Sound q m) f r g = ap (λ (y : ℕ). f y m) r ∙ g m ∙ ap (λ (y : ℕ). Sound y m) (sym r)
tail_is end (Fault number place) f r g = refl
