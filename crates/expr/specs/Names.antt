-- What the look-ups of names.rt give.
-- Assumes nothing.
use Rattle.std.specs.Prelude.{◌≡◌, List, ℕ, ◌%◌, None, Option, Some}
use Rattle.rules.specs.Bytes.{Name}
use Rattle.rules.specs.Tables.{last_index}
use Rattle.rules.specs.Tree.{Function}
use Rattle.rules.specs.Read.{contract_at}
use Rattle.rules.specs.Builtins as rules
use Rattle.records.specs.Keys.{key_of}
use Rattle.emit.specs.Ran.{or_first}
use Rattle.expr.specs.declared.names.Builtin.{Builtin}
use Rattle.expr.specs.declared.names.Builtin.TheVariants as builtin

-- A local as the definitions have it: of the register the low byte.
unfoldable pub reg_of : Option ℕ → Option ℕ
reg_of (Some r) = Some (r % 256)
reg_of None = None

-- A builtin as the definitions have it.
unfoldable pub builtin_of : Option Builtin → Option rules.Builtin
builtin_of (Some builtin.Poseidon) = Some rules.Builtin.poseidon
builtin_of (Some builtin.Sender) = Some rules.Builtin.sender
builtin_of (Some builtin.Nonce) = Some rules.Builtin.nonce
builtin_of (Some builtin.BlockNumber) = Some rules.Builtin.block-number
builtin_of (Some builtin.Merkle) = Some rules.Builtin.merkle
builtin_of None = None

-- No builtin has this key.
abbrev pub Unknown : ℕ → Type 0
Unknown key = (x : Name) → key_of x ≡ key → rules.builtin x ≡ None

-- The index of the last function of a name, 256 if there is none.
abbrev pub function_in : List ℕ → Name → ℕ
function_in img x = or_first (last_index (λ (f : Function). f.name) 0 x (contract_at img).functions)
