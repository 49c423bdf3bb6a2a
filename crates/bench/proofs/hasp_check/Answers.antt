-- `bench::hasp_check` meets its contract: a fault has room in one number.
use mathlib.Core.Path.{◌∙◌, sym, ap, subst}
use Rattle.rules.specs.declared.Answer.{Answer}
use Rattle.rules.specs.Build.{packed}
use Rattle.host.specs.Ends.{Small}
use Rattle.bench.specs.Small.{sound, faulty, small_check}
use Rattle.bench.proofs.hasp_check.Goals as goal

pub pack-requires : goal.pack-requires
pack-requires c = subst (λ (a : Answer). Small a) (sym c.of.ensures) (small_check _ _ _ (sym c.check.ensures ∙ c.in-Err.is))

pub returns-in-Ok : goal.returns-in-Ok
returns-in-Ok c = sound _ _ _ (sym c.check.ensures ∙ c.in-Ok.is)

pub returns-in-Err : goal.returns-in-Err
returns-in-Err c = c.pack.ensures ∙ ap packed c.of.ensures ∙ faulty _ _ _ (sym c.check.ensures ∙ c.in-Err.is)
