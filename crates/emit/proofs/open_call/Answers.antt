-- `open_call` meets its contract.
use mathlib.Core.Path.{refl}
use Rattle.emit.specs.Ran.{call_of}
use Rattle.emit.proofs.open_call.Goals as goal

pub returns : goal.returns
unfolding call_of
returns c = refl
