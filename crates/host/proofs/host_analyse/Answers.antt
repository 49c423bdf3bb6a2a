-- `host::host_analyse` meets its contract: the numbers of analysis have room.
use mathlib.Core.Path.{sym, ap, subst, ◌∙◌}
use Rattle.rules.specs.declared.Answer.{Answer}
use Rattle.rules.specs.Build.{packed}
use Rattle.host.specs.Ends.{Small, small_analysis}
use Rattle.host.proofs.host_analyse.Goals as goal

pub pack-requires : goal.pack-requires
pack-requires c = subst (λ (a : Answer). Small a) (sym c.analyse.ensures) (small_analysis c.args.image.now)

pub returns : goal.returns
returns c = c.pack.ensures ∙ ap packed c.analyse.ensures
