-- `lines::line` meets its contract.
use Rattle.std.proofs.Common.{arith}
use Rattle.lines.specs.Lengths.{length_line, counted}
use Rattle.lines.proofs.line.Goals as goal

pub returns : goal.returns
returns c = counted (omega (arith, length_line c.args.i c.args.w)) c.put_line.ensures
