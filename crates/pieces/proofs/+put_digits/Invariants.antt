-- `pieces::put_digits` meets its contract: the last digit behind those before it.
use Rattle.pieces.proofs.+put_digits.Given as goal

abbrev pub decreases-put_digits : goal.decreases-put_digits
decreases-put_digits l = l.left
