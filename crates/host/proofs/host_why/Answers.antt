-- `host::host_why` meets its contract: the numbers of a word have room.
use mathlib.Core.Path.{sym, ap, subst, ◌∙◌}
use Prim.Native.Nat.{suc, ◌<◌}
use Rattle.rules.specs.declared.Answer.{Answer}
use Rattle.rules.specs.declared.Why.{Why}
use Rattle.rules.specs.Bytes.{pick}
use Rattle.rules.specs.Refusal.{answer}
use Rattle.rules.specs.Build.{packed}
use Rattle.rules.specs.Why.{packed_why}
use Rattle.why.specs.Small.{why_small}
use Rattle.host.specs.Ends.{Small, small_why}
use Rattle.host.proofs.host_why.Goals as goal

pub counted-requires : goal.counted-requires
counted-requires c = subst (λ (w : Why). w.target < 4294967295) (sym c.why.ensures) (why_small c.args.image.now c.args.index).target

pub pack-requires : goal.pack-requires
pack-requires c = subst (λ (a : Answer). Small a) (sym (c.counted.ensures ∙ ap (λ (w : Why). answer w.refusal w.place (pick w.patched (suc w.target) 0)) c.why.ensures)) (small_why c.args.image.now c.args.index)

pub returns : goal.returns
unfolding packed_why
returns c = c.pack.ensures ∙ ap packed c.counted.ensures ∙ ap packed_why c.why.ensures
