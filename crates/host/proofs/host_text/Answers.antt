-- `host::host_text` meets its contract: the numbers of a text have room.
use mathlib.Core.Path.{sym, ap, subst, ◌∙◌}
use Rattle.rules.specs.declared.Answer.{Answer}
use Rattle.rules.specs.Build.{packed}
use Rattle.host.specs.Ends.{Small, small_text}
use Rattle.host.proofs.host_text.Goals as goal

pub pack-requires : goal.pack-requires
pack-requires c = subst (λ (a : Answer). Small a) (sym c.text.ensures.0) (small_text c.args.image.now c.args.out.now)

pub returns : goal.returns
returns c = (c.pack.ensures ∙ ap packed c.text.ensures.0, c.text.ensures.1)
