-- statements meets its contract.
use mathlib.Core.Path.{refl}
use Rattle.codegen.proofs.statements.Goals as goal

pub returns : goal.returns
returns c = rw (c.past-3.ensures.0, c.past-2.ensures.0, c.past.ensures.0, c.past-params.ensures.0, c.body.ensures.0) refl
