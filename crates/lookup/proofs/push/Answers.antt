-- push meets its contract.
use mathlib.Core.Path.{◌∙◌}
use native.Mathlib.Omega.{arith}
use lib.ListN.{length-set}
use Rattle.lookup.proofs.Scopes.{type_fits, pushed}
use Rattle.lookup.proofs.push.Goals as goal

pub overflow_mul-b : goal.overflow_mul-b
overflow_mul-b c = omega (arith, c.requires.1, c.within-b.ensures.0)

pub overflow_add-a : goal.overflow_add-a
overflow_add-a c = omega (arith, type_fits c.args.img.now c.tag-a.result c.within-b.result c.args.t (c.tag-a.ensures c.args.img.now) c.requires.1 c.within-b.ensures.0)

pub beside-cell-requires : goal.beside-cell-requires
beside-cell-requires c = (c.requires.1, type_fits c.args.img.now c.tag-a.result c.within-b.result c.args.t (c.tag-a.ensures c.args.img.now) c.requires.1 c.within-b.ensures.0)

pub bounds-env-top-2 : goal.bounds-env-top-2
bounds-env-top-2 c = simp length-set (omega arith)

pub returns : goal.returns
returns c = pushed c.args.img.now c.tag-a.result c.within-b.result c.args.t (c.tag-a.ensures c.args.img.now) c.args.env.now c.args.top c.name_key-key.result c.args.x c.beside-cell.result c.requires.0 c.name_key-key.ensures c.beside-cell.ensures (c.within-b.ensures.1.0 ∙ c.name_place.ensures)
