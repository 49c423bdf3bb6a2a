-- `in_args` meets its contract.
use Rattle.seek.specs.Lists.{Args}
use Rattle.seek.proofs.in_args.Given as goal

abbrev pub invariant-loop-i : goal.invariant-loop-i
invariant-loop-i l = Args l.analysed.contract.img.now l.scope l.rules l.d l.e l.first l.initial.s l.want l.p l.s l._i
