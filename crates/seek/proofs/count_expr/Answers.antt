-- `count_expr` meets its contract.
use Rattle.emit.specs.Ran.{raw}
use Rattle.seek.specs.Goes.{ran_goes}
use Rattle.seek.proofs.count_expr.Goals as goal

pub returns : goal.returns
returns c = record { goes = ran_goes (raw _) c.gen_expr.ensures }
