-- few meets its contract.
use mathlib.Core.Path.{sym}
use native.Mathlib.Omega.{arith}
use Rattle.records.proofs.Outside.{word_out, word_one, word_two, word_three}
use Rattle.records.proofs.few.Goals as goal

pub returns-then-n-eq0 : goal.returns-then-n-eq0
returns-then-n-eq0 c = (sym (word_out c.args.img.now _ (omega arith)), omega arith)

pub returns-then-n-eq1 : goal.returns-then-n-eq1
returns-then-n-eq1 c = omega (arith, word_one c.args.img.now c.args.i (omega arith))

pub returns-then-n-eq2 : goal.returns-then-n-eq2
returns-then-n-eq2 c = omega (arith, word_two c.args.img.now c.args.i (omega arith))

pub returns : goal.returns
returns c = omega (arith, word_three c.args.img.now c.args.i (omega arith))
