-- A name's key: a number that tells most names apart, so that names are compared only where their keys are equal. Any reading of the name would do.
--     key_of      the first four bytes and the last four
--     differ     names whose keys differ are not the same
-- Assumes nothing.
use Rattle.std.specs.Prelude.{◌≡◌, false, ℕ, ◌+◌, ◌-◌, ◌*◌, length}
use Rattle.std.proofs.Common.{sym}
use Rattle.rules.specs.Bytes.{Name, eq_name, le32}
use Rattle.records.specs.Names.{apart}

unfoldable pub key_of : Name → ℕ
key_of x = le32 x 0 + 4294967296 * le32 x (length x - 4)

pub differ : (a b : Name) → (key_of a ≡ key_of b → ⊥) → eq_name a b ≡ false
differ a b h = sym (apart a b key_of h)
