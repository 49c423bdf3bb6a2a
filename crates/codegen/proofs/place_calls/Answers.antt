-- place_calls meets its contract.
use native.Mathlib.Omega.{arith}
use lib.ListN.{length-take}
use Rattle.codegen.proofs.place_calls.Goals as goal

pub slice_bounds-link_both-end : goal.slice_bounds-link_both-end
slice_bounds-link_both-end c = omega (arith, length-take c.args.count c.args.firsts.now, c.requires)
