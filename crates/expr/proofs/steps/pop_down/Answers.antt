-- `pop_down` meets its contract.
use Rattle.expr.specs.Runs.{pops}
use Rattle.expr.specs.Values.{popped}
use Rattle.expr.proofs.Loops.{says_run, pops_are}
use native.Mathlib.Omega.{arith}
use Rattle.expr.proofs.steps.pop_down.Goals as goal

pub pop_numbers-requires : goal.pop_numbers-requires
pop_numbers-requires c = c.sum-end.ensures.most

pub pop_bytes-requires : goal.pop_bytes-requires
pop_bytes-requires c = c.sum-end.ensures.most

pub returns : goal.returns
returns c = says_run 0 (pops c.args.k) (popped c.args.k) (λ C p. pops_are C p c.args.k 0 c.args.k (omega arith)) c.sum-end.ensures c.pop_numbers.ensures c.pop_bytes.ensures c.at_word.ensures
