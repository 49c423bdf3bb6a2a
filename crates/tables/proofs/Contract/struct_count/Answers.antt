-- `Contract::struct_count` meets its contract.
use Rattle.tables.proofs.Contract.struct_count.Goals as goal

pub returns : goal.returns
returns c = c.struct_count.ensures _ c.args.self.now.tabled
