-- `function_index` meets its contract.
use Rattle.expr.proofs.Asked.{has_function, no_function}
use Rattle.expr.proofs.names.function_index.Goals as goal

-- src/names.rt:76:1
pub returns-in-Some : goal.returns-in-Some
returns-in-Some c = has_function _ _ _ _ c.function_named.ensures c.in-Some.is

-- src/names.rt:76:1
pub returns-in-None : goal.returns-in-None
returns-in-None c = no_function _ _ _ c.function_named.ensures c.in-None.is
