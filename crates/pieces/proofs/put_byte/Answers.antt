-- `pieces::put_byte` meets its contract.
use mathlib.Core.Path.{refl, sym}
use Rattle.lent.specs.Over.{over_at_one}
use Rattle.pieces.proofs.put_byte.Goals as goal

pub returns : goal.returns
returns c = record { laid = sym (over_at_one c.args.n c.args.b c.args.out.now); past = refl }
