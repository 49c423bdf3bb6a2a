-- `link::linked_word` meets its contract: an open call is told by its low byte.
use mathlib.Core.Path.{refl}
use borrow.Author.Tests.{lt-leb, le-leb}
use native.Mathlib.Omega.{arith}
use Rattle.isa.specs.Ruled.{is_opcode, no_opcode}
use Rattle.rules.specs.Bytes.{pick}
use Rattle.link.specs.Linked.{linked}
use Rattle.link.proofs.linked_word.Goals as goal

pub returns-then-fact : goal.returns-then-fact
unfolding linked pick
returns-then-fact c = rw (lt-leb _ _ (is_opcode _ c.requires _ (omega arith) c.fact.ensures c.if-fact.true)) refl

pub returns : goal.returns
unfolding linked pick
returns c = rw (le-leb _ _ (no_opcode _ c.requires _ (omega arith) c.fact.ensures c.if-fact.false), ← c.distance.ensures) c.word.ensures
