-- `compiler::stages::target` is the target of the public answers.
use mathlib.Core.Path.{refl}
use native.Mathlib.Omega.{arith}
use Rattle.rules.specs.Build.{rules}
use Rattle.compiler.proofs.stages.target.Goals as goal

pub returns : goal.returns
unfolding rules
returns c = (refl, omega arith)
