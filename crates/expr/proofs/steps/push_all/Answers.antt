-- `push_all` meets its contract.
use Rattle.expr.specs.Values.{regs_in, argued}
use Rattle.expr.proofs.Values.{regs_none}
use Rattle.expr.proofs.Loops.{says_begin, argue_go, says_end}
use mathlib.Core.List.{List}
use native.Mathlib.Omega.{arith}
use mathlib.Core.Path.{◌≡◌, ap}
use Prim.Native.Nat.{ℕ, ◌-◌}
use Rattle.expr.proofs.steps.push_all.Goals as goal

pub loop-i-init : goal.loop-i-init
loop-i-init c = says_begin _ _ _ (λ p. let e : c.args.n - 0 ≡ c.args.n = omega arith in ap (λ (m : ℕ). argued (regs_in c.args.vals.now 0 m) p) e)

pub loop-i-preserved : goal.loop-i-preserved
loop-i-preserved c = argue_go _ _ _ _ _ _ c.loop-i.invariant c.loop-i-test.true c.at_word-s.ensures (rw c.from.ensures at c.emit-k.ensures) (c.emit-k.auto.code, c.emit-k.auto.bytes)

pub shape_of-code : goal.shape_of-code
shape_of-code c = c.loop-i.invariant.room.0

pub shape_of-bytes : goal.shape_of-bytes
shape_of-bytes c = c.loop-i.invariant.room.1

pub returns : goal.returns
returns c = says_end _ _ _ c.loop-i.invariant (λ p. ap (λ (l : List ℕ). argued l p) (regs_none _ _ _ c.loop-i-test.false)) c.at_word.ensures
