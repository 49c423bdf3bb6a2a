-- `pieces::put_number` meets its contract.
use Rattle.rules.specs.Texts.{decimal}
use Rattle.pieces.proofs.put_number.Goals as goal

pub put_digits-requires : goal.put_digits-requires
unfolding decimal
put_digits-requires c = c.requires

pub returns : goal.returns
unfolding decimal
returns c = c.put_digits.ensures
