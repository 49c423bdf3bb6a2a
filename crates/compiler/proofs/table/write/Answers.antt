-- `compiler::table::write`: three stores in a row are the entry's numbers, laid from the first place on.
use mathlib.Core.Path.{◌≡◌, sym, ◌∙◌}
use mathlib.Core.List.{List, [], ◌∷◌}
use Prim.Native.Nat.{ℕ, ◌+◌, ◌*◌}
use native.Mathlib.Omega.{arith}
use lib.ListN.{set, length-set}
use Rattle.lent.specs.Over.{over_at, over_at_first, over_at_next, over_at_nil}
use Rattle.compiler.proofs.table.write.Goals as goal

stores : (k : ℕ) (a b c : ℕ) (s : List ℕ) → set (set (set s k a) (k + 1) b) (k + 2) c ≡ over_at k (a ∷ b ∷ c ∷ []) s
stores k a b c s = sym (over_at_first k a _ s ∙ over_at_next k 1 b _ _ ∙ over_at_next k 2 c _ _ ∙ over_at_nil (k + 3) _)

-- src/table.rt:27:5
pub bounds-table-at-2 : goal.bounds-table-at-2
bounds-table-at-2 c = simp length-set (omega arith)

-- src/table.rt:28:5
pub bounds-table-at-3 : goal.bounds-table-at-3
bounds-table-at-3 c = simp length-set (omega arith)

-- src/table.rt:21:1
pub returns : goal.returns
returns c = stores (3 * c.args.k) _ _ _ c.args.table.now
