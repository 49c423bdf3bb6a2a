-- `pieces::put` meets its contract: a byte more each time.
use mathlib.Core.Path.{◌≡◌, refl, sym, ap, ◌∙◌}
use mathlib.Core.List.{List}
use Prim.Native.Nat.{ℕ, ◌+◌}
use native.Mathlib.Omega.{arith}
use lib.ListN.{length, take, get_or, set}
use lib.Seq.{take-length}
use Rattle.lent.specs.Over.{over_at, over_at_nil, length_over_at}
use Rattle.pieces.specs.Lays.{lay_more}
use Rattle.pieces.proofs.put.Goals as goal

pub loop-i-init : goal.loop-i-init
loop-i-init c = sym (over_at_nil c.args.n _)

pub bounds-out-n : goal.bounds-out-n
bounds-out-n c = omega (arith, ap length c.loop-i.invariant ∙ length_over_at c.args.n _ _, c.requires)

pub loop-i-preserved : goal.loop-i-preserved
loop-i-preserved c = ap (λ r. set r (c.args.n + c.loop-i.i) (get_or c.args.s.now c.loop-i.i 0)) c.loop-i.invariant ∙ lay_more c.args.n c.loop-i.i c.args.s.now c.args.out.now (omega arith)

pub shape_of-out : goal.shape_of-out
shape_of-out c = ap length c.loop-i.invariant ∙ length_over_at c.args.n _ _

pub returns : goal.returns
returns c =
    let all : c.loop-i.i ≡ length c.args.s.now = omega arith in
    let laid = λ (l : List ℕ). over_at c.args.n l c.args.out.now in
    record {
      laid = c.loop-i.invariant ∙ ap (λ k. laid (take k c.args.s.now)) all ∙ ap laid (take-length c.args.s.now);
      past = refl;
    }
