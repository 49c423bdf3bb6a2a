-- `Contract::struct_named` meets its contract.
use Rattle.tables.proofs.Contract.struct_named.Goals as goal

pub last_named-requires : goal.last_named-requires
last_named-requires c = (_, c.args.self.now.tabled.structs)

pub returns : goal.returns
returns c = c.last_named.ensures _ c.args.self.now.tabled.structs
