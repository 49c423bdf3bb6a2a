-- `Contract::function_count` meets its contract.
use Rattle.tables.proofs.Contract.function_count.Goals as goal

pub returns : goal.returns
returns c = c.function_count.ensures _ c.args.self.now.tabled
