-- word_in meets its contract.
use native.Mathlib.Omega.{arith}
use Rattle.records.specs.Small.{word_bytes}
use Rattle.records.proofs.word_in.Goals as goal

pub returns : goal.returns
returns c = omega (arith, word_bytes c.args.img.now c.args.i)
