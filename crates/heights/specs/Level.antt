-- The reading of words as heights.
-- Assumes nothing.
use Rattle.std.specs.Prelude.{◌≡◌, refl, ℕ, suc, ◌+◌}
use Rattle.rules.specs.Machine.{Kind, kind}
use Rattle.rules.specs.Bytes.{Name}
use Rattle.rules.specs.Emit.{Open, word, calls}
use Rattle.heights.specs.Segment.{Reading}

-- A word that goes on to the next needs this much, and does this.
abbrev pub CanHeight : Kind → ℕ → Type 0
CanHeight Kind.plain x = Unit {0}
CanHeight Kind.pushes x = Unit {0}
CanHeight Kind.pops x = (y : ℕ) × (suc y ≡ x)
CanHeight Kind.jumps x = ⊥
CanHeight Kind.forks x = ⊥
CanHeight Kind.calls x = ⊥
CanHeight Kind.ends x = ⊥
CanHeight Kind.stuck x = ⊥

-- From height x to y.
abbrev pub StepHeight : Kind → ℕ → ℕ → Type 0
StepHeight Kind.plain x y = y ≡ x
StepHeight Kind.pushes x y = y ≡ suc x
StepHeight Kind.pops x y = suc y ≡ x
StepHeight Kind.jumps x y = ⊥
StepHeight Kind.forks x y = ⊥
StepHeight Kind.calls x y = ⊥
StepHeight Kind.ends x y = ⊥
StepHeight Kind.stuck x y = ⊥

-- Where it can, it does.
step_height : (k : Kind) (x : ℕ) → CanHeight k x → (y : ℕ) × StepHeight k x y
step_height Kind.plain x c = (x, refl)
step_height Kind.pushes x c = (suc x, refl)
step_height Kind.pops x c = c
step_height Kind.jumps x c = absurd c
step_height Kind.forks x c = absurd c
step_height Kind.calls x c = absurd c
step_height Kind.ends x c = absurd c
step_height Kind.stuck x c = absurd c

-- takes f n: a call of f takes n.
module _ (takes : Name → ℕ → Type 0) where
  -- A call needs what it takes.
  abbrev pub Can : Open → ℕ → Type 0
  Can (word p b w) x = CanHeight (kind w.op) x
  Can (calls p f) x = (n : ℕ) × (y : ℕ) × takes f n × (n + y ≡ x)

  -- And gives one.
  abbrev pub Step : Open → ℕ → ℕ → Type 0
  Step (word p b w) x z = StepHeight (kind w.op) x z
  Step (calls p f) x z = (n : ℕ) × (y : ℕ) × takes f n × (n + y ≡ x) × (z ≡ suc y)

  -- Where a word can, it does.
  pub lives : (o : Open) (x : ℕ) → Can o x → (z : ℕ) × Step o x z
  lives (word p b w) x c = step_height (kind w.op) x c
  lives (calls p f) x (n, y, t, e) = (suc y, (n, y, t, e, refl))

  -- A state is a height, and so is a note. An end is met at two.
  abbrev pub height : Reading
  height = record { State = ℕ; Note = ℕ; Means = λ a x. a ≡ x; Can = Can; Step = Step; End = λ x. x ≡ 2; lives = lives }
