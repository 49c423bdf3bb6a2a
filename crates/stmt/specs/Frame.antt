-- What a statement needs of the arrays that are lent to it, and what it does to the scope.
-- Assumes nothing.
use Rattle.std.specs.Prelude.{◌≡◌, List, ℕ, ◌+◌, ◌*◌, ◌%◌, ◌≤◌, ◌<◌, length, get_or}
use Rattle.rules.specs.Bytes.{name_at}
use Rattle.rules.specs.Emit.{with_name}
use Rattle.notes.specs.Notes.{Known}
use Rattle.expr.specs.Scope.{reg_no, scope_in}

-- The tables and the notes are the image's, and there is room for k names more.
pub record Ready (img t N s : List ℕ) (k : ℕ) : Type 0 where
  pub known : Known img t N
  pub names : get_or s 0 0 + k ≤ 512
  pub size : 1025 ≤ length s

-- The names that were there stay as they are; behind them there are k more at most.
pub record Frame (s s' : List ℕ) (k : ℕ) : Type 0 where
  pub least : get_or s 0 0 ≤ get_or s' 0 0
  pub most : get_or s' 0 0 ≤ get_or s 0 0 + k
  pub kept : (i : ℕ) → 0 < i → i ≤ 2 * get_or s 0 0 → get_or s' i 0 ≡ get_or s i 0

-- bind: one name more
pub record Binds (img : List ℕ) (x r : ℕ) (s s' : List ℕ) : Type 0 where
  pub scope : scope_in img s' ≡ with_name (name_at img x) (r % 256) (scope_in img s)
  pub frame : Frame s s' 1
  pub count : get_or s' 0 0 ≡ get_or s 0 0 + 1
  pub reg : reg_no s' (get_or s 0 0) ≡ r % 256
