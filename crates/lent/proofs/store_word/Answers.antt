-- `lent::store_word` meets its contract: eight stores in a row are the word's bytes, laid from the first place on.
use Prim.Native.Nat.{◌*◌}
use native.Mathlib.Omega.{arith}
use lib.ListN.{length-set}
use Rattle.lent.specs.Words.{stores}
use Rattle.rules.specs.Lent.{word_bytes}
use Rattle.lent.proofs.store_word.Goals as goal

pub bounds-bytes-at-2 : goal.bounds-bytes-at-2
bounds-bytes-at-2 c = simp length-set (omega arith)

pub bounds-bytes-at-3 : goal.bounds-bytes-at-3
bounds-bytes-at-3 c = simp length-set (omega arith)

pub bounds-bytes-at-4 : goal.bounds-bytes-at-4
bounds-bytes-at-4 c = simp length-set (omega arith)

pub bounds-bytes-at-5 : goal.bounds-bytes-at-5
bounds-bytes-at-5 c = simp length-set (omega arith)

pub bounds-bytes-at-6 : goal.bounds-bytes-at-6
bounds-bytes-at-6 c = simp length-set (omega arith)

pub bounds-bytes-at-7 : goal.bounds-bytes-at-7
bounds-bytes-at-7 c = simp length-set (omega arith)

pub bounds-bytes-at-8 : goal.bounds-bytes-at-8
bounds-bytes-at-8 c = simp length-set (omega arith)

pub shape_of-bytes : goal.shape_of-bytes
shape_of-bytes c = simp length-set

pub returns : goal.returns
unfolding word_bytes
returns c = stores (8 * c.args.i) _ _ _ _ _ _ _ _ c.args.bytes.now
