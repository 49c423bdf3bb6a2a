-- Records with no parts.
-- Assumes nothing.
use Rattle.std.specs.Prelude.{ℕ, Bool, true, false, eqb, ltb}
use Rattle.rules.specs.Bytes.{pick}

-- Name, Flag, Op and Int have no parts.
unfoldable pub leaf : ℕ → Bool
leaf k = pick (eqb k 64) true (pick (eqb k 2) false (ltb k 16))
