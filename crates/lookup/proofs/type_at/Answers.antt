-- type_at meets its contract.
use Rattle.lookup.specs.Answers.{ty_of}
use Rattle.rules.specs.Bytes.{pick}
use Rattle.rules.specs.Types.{type_named}
use Rattle.lookup.proofs.type_at.Goals as goal

pub returns-then-is_name : goal.returns-then-is_name
unfolding ty_of type_named pick
returns-then-is_name c = rw (← c.is_name.ensures, c.if-is_name.true)

pub returns-then-is_name-2 : goal.returns-then-is_name-2
unfolding ty_of type_named pick
returns-then-is_name-2 c = rw (← c.is_name.ensures, c.if-is_name.false, ← c.is_name-2.ensures, c.if-is_name-2.true)

pub returns-then-is_name-3 : goal.returns-then-is_name-3
unfolding ty_of type_named pick
returns-then-is_name-3 c = rw (← c.is_name.ensures, c.if-is_name.false, ← c.is_name-2.ensures, c.if-is_name-2.false, ← c.is_name-3.ensures, c.if-is_name-3.true)

pub returns : goal.returns
unfolding ty_of type_named pick
returns c = rw (← c.is_name.ensures, c.if-is_name.false, ← c.is_name-2.ensures, c.if-is_name-2.false, ← c.is_name-3.ensures, c.if-is_name-3.false)
