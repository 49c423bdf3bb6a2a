-- `Contract::struct_place` meets its contract.
use Rattle.tables.proofs.Contract.struct_place.Goals as goal

pub returns : goal.returns
returns c = c.struct_place.ensures _ c.args.self.now.tabled
