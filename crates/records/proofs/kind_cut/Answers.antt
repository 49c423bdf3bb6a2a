-- kind_cut meets its contract.
use native.Mathlib.Omega.{arith}
use Rattle.records.specs.Small.{kind_bytes}
use Rattle.records.proofs.kind_cut.Goals as goal

pub returns : goal.returns
returns c = omega (arith, kind_bytes c.args.img.now c.args.i)
