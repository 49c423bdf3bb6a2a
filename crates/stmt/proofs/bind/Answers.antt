-- bind adds one name to the scope.
use native.Mathlib.Omega.{arith}
use lib.ListN.{length-set}
use Rattle.stmt.proofs.Names.{bound}
use Rattle.stmt.proofs.bind.Goals as goal

pub bounds-scope-k-2 : goal.bounds-scope-k-2
bounds-scope-k-2 c = simp length-set (omega (arith, c.requires.0, c.requires.1.0))

pub bounds-scope-0-2 : goal.bounds-scope-0-2
bounds-scope-0-2 c = simp length-set (omega (arith, c.requires.0, c.requires.1.0))

pub returns : goal.returns
returns c = bound c.args.scope.now c.name_key-key.result c.beside-cell.result c.requires.0 c.requires.1.0 c.args.img.now c.args.name c.args.reg c.beside-cell.ensures c.name_key-key.ensures
