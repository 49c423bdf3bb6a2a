-- `compiler::build` meets its contract: the whole answer.
use mathlib.Core.Path.{refl, sym, ◌∙◌}
use lib.ListN.{length}
use Rattle.rules.specs.Build.{rules}
use Rattle.lent.specs.Rest.{all_zero}
use Rattle.compiler.proofs.Leaving.{fill_given, sized, built_refused, built_accepted}
use Rattle.compiler.proofs.build.Goals as goal

pub returns-then-a-ne0 : goal.returns-then-a-ne0
returns-then-a-ne0 c = built_refused rules c.args.table.now (rw c.target.ensures.0 at (c.make-a.ensures (length c.args.table.now) refl)) c.if-a-ne0.true (c.fill.ensures.after (λ y e. e) ∙ sym (all_zero _))

pub slice_bounds-contract-end : goal.slice_bounds-contract-end
slice_bounds-contract-end c = sized rules c.args.table.now (rw c.target.ensures.0 at (c.make-a.ensures (length c.args.table.now) refl)) c.if-a-ne0.false

pub invariant_of-contract : goal.invariant_of-contract
invariant_of-contract c = record { tabled = (fill_given rules c.args.table.now (rw c.target.ensures.0 at (c.make-a.ensures (length c.args.table.now) refl)) c.if-a-ne0.false (λ _. refl)).0 }

pub fill-requires-2 : goal.fill-requires-2
fill-requires-2 c = (fill_given rules c.args.table.now (rw c.target.ensures.0 at (c.make-a.ensures (length c.args.table.now) refl)) c.if-a-ne0.false (λ _. refl)).1.1

pub returns : goal.returns
returns c = built_accepted rules c.args.table.now (rw c.target.ensures.0 at (c.make-a.ensures (length c.args.table.now) refl)) c.if-a-ne0.false (λ _. refl) c.fill-2.ensures
