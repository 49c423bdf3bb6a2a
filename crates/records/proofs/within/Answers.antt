-- within meets its contract.
use native.Mathlib.Omega.{arith}
use Rattle.records.proofs.Outside.{name_near}
use Rattle.records.proofs.within.Goals as goal

pub returns : goal.returns
returns c = (omega (arith, c.min.ensures), (name_near _ _ _ c.min.ensures, λ h. omega (arith, c.min.ensures, h)))
