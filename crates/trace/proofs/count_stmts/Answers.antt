-- `count_stmts` meets its contract.
use Rattle.emit.specs.Ran.{raw}
use Rattle.seek.specs.Goes.{ran_goes}
use Rattle.trace.proofs.count_stmts.Goals as goal

pub gen_stmts-requires : goal.gen_stmts-requires
gen_stmts-requires c = (rw (c.body.ensures.0, c.past.ensures.0) c.requires, c.past.ensures.1)

pub shape_of-scope : goal.shape_of-scope
shape_of-scope c = c.gen_stmts.auto.scope

pub returns : goal.returns
returns c = record { goes = ran_goes (raw _) (rw (c.body.ensures.0, c.past.ensures.0) at c.gen_stmts.ensures.ran); frame = rw (c.body.ensures.0, c.past.ensures.0) at c.gen_stmts.ensures.frame; grows = c.gen_stmts.ensures.ran.grows }
