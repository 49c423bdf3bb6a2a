-- `alloc_reg` meets its contract.
use Prim.Native.Nat.{ℕ, ◌+◌}
use Rattle.emit.specs.State.{moved}
use Rattle.emit.specs.Leaves.{took, took_not}
use mathlib.Core.Path.{ap, ◌∙◌}
use native.Mathlib.Omega.{arith}
use Rattle.emit.proofs.St.alloc_reg.Goals as goal

-- src/lib.rt:84:5
pub returns-then-next-free : goal.returns-then-next-free
returns-then-next-free c = took _ _ _ _ (omega arith) (rw c.from-free.ensures at c.if-next-free.true) c.with.ensures

-- src/lib.rt:84:5
pub returns-else-next-free : goal.returns-else-next-free
returns-else-next-free c = took_not _ _ _ _ _ (omega arith) (rw c.from-free.ensures at c.if-next-free.false) c.fail-st.ensures (c.with-else-next-free.ensures ∙ ap (λ (n : ℕ). moved c.fail-st.result n (n + 1)) c.from-free.ensures)
