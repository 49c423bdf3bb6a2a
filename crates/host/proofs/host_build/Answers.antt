-- `host::host_build` meets its contract: a refusal clears the bytes, and the numbers have room.
use mathlib.Core.Path.{sym, ap, subst, ◌∙◌}
use lib.ListN.{length}
use Rattle.lent.specs.Rest.{all_zero}
use Rattle.rules.specs.declared.Answer.{Answer}
use Rattle.rules.specs.Build.{rules, packed, host_of}
use Rattle.host.specs.Ends.{Small, small, hosted_as, clears}
use native.Mathlib.Omega.{arith}
use Rattle.host.proofs.host_build.Goals as goal

pub pack-requires : goal.pack-requires
unfolding rules
pack-requires c = let h = hosted_as (rw c.target.ensures.0 at c.program-made.ensures) c.program-made.auto.bytes (rw c.program-made.auto.bytes at c.fit-a.ensures) in subst (λ (a : Answer). Small a) (sym h.answer) (small rules (omega arith) c.args.image.now (length c.args.out.now))

pub returns-then-refusal-ne0 : goal.returns-then-refusal-ne0
unfolding host_of
returns-then-refusal-ne0 c = let h = hosted_as (rw c.target.ensures.0 at c.program-made.ensures) c.program-made.auto.bytes (rw c.program-made.auto.bytes at c.fit-a.ensures) in (c.pack.ensures ∙ ap packed h.answer, c.fill.ensures.after (λ y e. e) ∙ sym (all_zero _) ∙ clears rules c.args.image.now c.args.out.now _ _ h c.if-refusal-ne0.true)

pub pack-requires-2 : goal.pack-requires-2
unfolding rules
pack-requires-2 c = let h = hosted_as (rw c.target.ensures.0 at c.program-made.ensures) c.program-made.auto.bytes (rw c.program-made.auto.bytes at c.fit-a.ensures) in subst (λ (a : Answer). Small a) (sym h.answer) (small rules (omega arith) c.args.image.now (length c.args.out.now))

pub returns : goal.returns
unfolding host_of
returns c = let h = hosted_as (rw c.target.ensures.0 at c.program-made.ensures) c.program-made.auto.bytes (rw c.program-made.auto.bytes at c.fit-a.ensures) in (c.pack-2.ensures ∙ ap packed h.answer, h.bytes c.if-refusal-ne0.false)
