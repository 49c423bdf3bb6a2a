-- `push_up` meets its contract.
use Rattle.expr.specs.Runs.{pushes}
use Rattle.expr.specs.Values.{pushed}
use Rattle.expr.proofs.Loops.{says_run, pushes_are}
use Rattle.expr.proofs.steps.push_up.Goals as goal

pub returns : goal.returns
returns c = says_run 1 pushes (pushed 1 c.args.k) (λ C p. pushes_are C p 1 c.args.k) c.sum-end.ensures c.push_numbers.ensures c.push_bytes.ensures c.at_word.ensures
