-- `find_expr` meets its contract.
use mathlib.Core.Path.{◌≡◌}
use Rattle.emit.specs.declared.St.{St}
use Rattle.seek.specs.Spots.{into}
use Rattle.seek.specs.Lists.{Down}
use Rattle.seek.proofs.find_expr.Given as goal

abbrev pub invariant-loop-d : goal.invariant-loop-d
invariant-loop-d l = (st : St) → l.initial.t ≡ into l.at l.end st → Down l.analysed.contract.img.now l.scope l.rules l.depth l.at st l.end l.want l.d l.t
