-- main_index meets its contract.
use mathlib.Core.Path.{◌≡◌}
use Rattle.codegen.proofs.Mains.{main_of}
use Rattle.codegen.proofs.main_index.Given as goal

abbrev pub invariant-loop-k : goal.invariant-loop-k
invariant-loop-k l = l.found ≡ main_of l.contract.img.now l.k
