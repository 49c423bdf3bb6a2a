-- is_main meets its contract.
use Rattle.rules.specs.Builtins.{main}
use Rattle.codegen.proofs.is_main.Goals as goal

pub returns : goal.returns
unfolding main
returns c = rw c.body.ensures.0 at c.is_name.ensures
