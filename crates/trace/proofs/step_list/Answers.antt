-- `step_list` meets its contract.
use mathlib.Core.Path.{refl}
use borrow.Author.Rules.{rules}
use Rattle.trace.specs.Lists.{falls_absent, falls_ready, falls_in}
use Rattle.trace.proofs.step_list.Goals as goal

pub step_block-b-requires : goal.step_block-b-requires
step_block-b-requires c = c.requires.0

pub returns-then-ne : goal.returns-then-ne
returns-then-ne c = falls_absent c.step_block-b.ensures (search rules) c.own.ensures

pub step_stmt-requires : goal.step_stmt-requires
step_stmt-requires c = falls_ready c.step_block-b.ensures c.requires.1 refl (search rules)

pub returns : goal.returns
returns c = falls_in c.step_block-b.ensures c.requires.1 refl (search rules) c.step_stmt.ensures
