-- A map of heights that is right at each word gives the law for every path. It knows nothing of a generator.
-- Assumes nothing.
use Rattle.std.specs.Prelude.{◌≡◌, List, ℕ, suc, ◌+◌, ◌≤◌, ◌<◌}
use Rattle.rules.specs.Machine.{Kind, Imm, Word, Entry, At, kind, Lands, Starts}

-- H i x: the map has height x at index i. A word of kind k with the distance d at index i, which the map
-- has at height x, has what it takes, and the map has each word that the path can go to at the height that it then is.
abbrev pub Right : List Entry → (ℕ → ℕ → Type 0) → ℕ → ℕ → Imm → Kind → Type 0
Right T H i x d Kind.plain = H (suc i) x
Right T H i x d Kind.pushes = H (suc i) (suc x)
Right T H i x d Kind.pops = (y : ℕ) × (suc y ≡ x) × H (suc i) y
Right T H i x d Kind.jumps = (j : ℕ) × Lands i d j × H j x
Right T H i x d Kind.forks = (j : ℕ) × Lands i d j × H j x × H (suc i) x
Right T H i x d Kind.calls = (e : ℕ) × (n : ℕ) × (y : ℕ) × Lands i d e × Starts T e n × (n + y ≡ x) × H (suc i) (suc y)
Right T H i x d Kind.ends = x ≡ 2
Right T H i x d Kind.stuck = ⊥

-- The certificate of one function.
pub record Certified (C : List Word) (T : List Entry) (f : Entry) (H : ℕ → ℕ → Type 0) : Type 0 where
  pub inside : (i x : ℕ) → H i x → (f.first ≤ i) × (i < f.past)
  pub single : (i x y : ℕ) → H i x → H i y → x ≡ y
  pub begins : H f.first (suc f.params)
  pub right : (i x : ℕ) → H i x → (w : Word) × At C i w × Right T H i x w.imm (kind w.op)
