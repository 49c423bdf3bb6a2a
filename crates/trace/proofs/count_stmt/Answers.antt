-- `count_stmt` meets its contract.
use Rattle.trace.specs.Lists.{alone_counted, alone_ready}
use Rattle.trace.proofs.count_stmt.Goals as goal

pub gen_stmts-requires : goal.gen_stmts-requires
gen_stmts-requires c = (alone_ready c.args.analysed.now.contract.img.now c.args.d c.args.at c.args.analysed.now.contract.tabled.small c.requires.1 c.past.ensures.0 c.past.ensures.1 c.requires.0, c.past.ensures.1)

pub shape_of-scope : goal.shape_of-scope
shape_of-scope c = c.gen_stmts.auto.scope

pub returns : goal.returns
returns c = alone_counted c.args.analysed.now.contract.img.now c.args.d c.args.at c.args.analysed.now.contract.tabled.small c.requires.1 c.past.ensures.0 c.past.ensures.1 c.gen_stmts.ensures
