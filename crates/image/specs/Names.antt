-- Bytes of a name, by place.
-- Assumes nothing.
use Rattle.std.specs.Prelude.{ℕ, ◌+◌, ◌≤◌, ◌<◌, ◌≡◌, true, List}
use Rattle.rules.specs.Bytes.{byte_at, name_byte_lem}

-- Each byte from one place up to another is one of a name.
abbrev pub Named : List ℕ → ℕ → ℕ → Type 0
Named s p to = (k : ℕ) → p ≤ k → k < to → name_byte_lem (byte_at s k) ≡ true

-- The four at p and the four at q.
abbrev pub Fours : List ℕ → ℕ → ℕ → Type 0
Fours s p q = Named s p (p + 4) × Named s q (q + 4)
