-- push_params meets its contract.
use Rattle.sema.proofs.Bodies.{bound_more, bound_none}
use lib.ListN.{length}
use mathlib.Core.Path.{◌∙◌, ap, refl}
use native.Mathlib.Omega.{arith}
use Rattle.sema.proofs.push_params.Goals as goal

pub loop-p-init : goal.loop-p-init
loop-p-init c = rw (c.into_iter-p-iterator.ensures.into_iter_gives, c.list-p-items.ensures) ((tt, tt), omega (arith, c.requires.0), refl, λ e2 r s. s)

pub push-top-requires : goal.push-top-requires
push-top-requires c = (omega (arith, ap length c.in-Some.ensures.steps, c.loop-p.invariant.1), c.requires.1)

pub loop-p-preserved : goal.loop-p-preserved
loop-p-preserved c =
    let steps = c.in-Some.ensures.steps in (
      (tt, tt),
      omega (arith, ap length steps, c.loop-p.invariant.1, c.push-top.ensures.next, c.push-top.ensures.size),
      c.push-top.ensures.size ∙ c.loop-p.invariant.2,
      λ e2 r s. c.loop-p.invariant.3 e2 r (bound_more c.in-Some.p c.push-top.ensures c.body.ensures.0 c.declared-t.ensures steps s),
    )

pub returns : goal.returns
returns c = c.loop-p.invariant.3 _ _ (bound_none _ c.in-None.ensures.steps.0)
