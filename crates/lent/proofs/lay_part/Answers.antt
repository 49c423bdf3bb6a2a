-- `lay_part` meets its contract: eight stores in a row, as far as there is room.
use Prim.Native.Nat.{◌*◌}
use Rattle.rules.specs.Lent.{word_bytes}
use Rattle.lent.specs.Words.{stores}
use Rattle.lent.proofs.lay_part.Goals as goal

pub returns : goal.returns
unfolding word_bytes
returns c = rw (c.lay-8.ensures, c.lay-7.ensures, c.lay-6.ensures, c.lay-5.ensures, c.lay-4.ensures, c.lay-3.ensures, c.lay-2.ensures, c.lay.ensures) (stores (8 * c.args.i) _ _ _ _ _ _ _ _ _)
