-- `Contract::function_place` meets its contract.
use Rattle.tables.proofs.Contract.function_place.Goals as goal

pub returns : goal.returns
returns c = c.function_place.ensures _ c.args.self.now.tabled
