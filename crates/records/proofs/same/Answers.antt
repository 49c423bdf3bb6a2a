-- same meets its contract.
use Rattle.records.specs.Names.{apart}
use lib.ListN.{length}
use Rattle.records.proofs.same.Goals as goal

pub returns-then-a-b : goal.returns-then-a-b
returns-then-a-b c = apart c.args.a.now c.args.b.now length c.if-a-b.true
