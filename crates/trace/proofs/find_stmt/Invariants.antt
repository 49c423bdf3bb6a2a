-- `find_stmt` meets its contract.
use mathlib.Core.Path.{◌≡◌}
use Rattle.emit.specs.declared.St.{St}
use Rattle.trace.specs.Moves.{entering}
use Rattle.trace.specs.Lists.{Down}
use Rattle.trace.proofs.find_stmt.Given as goal

abbrev pub invariant-loop-d : goal.invariant-loop-d
invariant-loop-d l = (st : St) → l.initial.t ≡ entering l.list l.end st → Down l.analysed.contract.img.now l.analysed.contract.tables.now l.analysed.notes.now l.initial.scope l.rules l.depth l.list st l.end l.want l.scope l.d l.t
