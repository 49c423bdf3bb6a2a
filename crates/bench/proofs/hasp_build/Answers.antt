-- `bench::hasp_build` meets its contract: the build's numbers have room in one.
use mathlib.Core.Path.{◌∙◌, sym, ap, subst}
use native.Mathlib.Omega.{arith}
use Rattle.rules.specs.declared.Answer.{Answer}
use Rattle.rules.specs.Build.{rules, packed}
use Rattle.host.specs.Ends.{Small}
use Rattle.bench.specs.Small.{small_build}
use Rattle.bench.proofs.hasp_build.Goals as goal

pub pack-requires : goal.pack-requires
unfolding rules
pack-requires c = subst (λ (a : Answer). Small a) (sym c.build.ensures.answer) (small_build rules (omega arith) c.args.image.now c.args.code.now c.args.table.now)

pub returns : goal.returns
returns c = (c.pack.ensures ∙ ap packed c.build.ensures.answer, c.build.ensures.words, c.build.ensures.entries)
