-- kind meets its contract.
use mathlib.Core.Path.{◌∙◌}
use native.Mathlib.Omega.{arith}
use Rattle.records.specs.Small.{kind_bytes}
use Rattle.records.proofs.Outside.{kind_near}
use Rattle.records.proofs.kind.Goals as goal

pub returns-then-n-i-ge6 : goal.returns-then-n-i-ge6
returns-then-n-i-ge6 c = omega (arith, kind_bytes c.args.img.now c.args.i)

pub returns : goal.returns
returns c = (c.kind_cut.ensures.0 ∙ kind_near c.args.img.now c.args.i _ c.min.ensures, c.kind_cut.ensures.1)
