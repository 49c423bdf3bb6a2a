-- position meets its contract.
use Rattle.std.proofs.Common.{arith, ap, length, inl, refl, sym, ◌∙◌}
use Rattle.rules.specs.Bytes.{inside, after}
use Rattle.rules.specs.Read.{fields_at}
use Rattle.records.specs.Places.{places_few}
use Rattle.fields.specs.Steps.{left_none, left_here, left_next}
use Rattle.fields.proofs.Positions.{found_at, found_none}
use Rattle.fields.proofs.position.Goals as goal

pub loop-n-init : goal.loop-n-init
unfolding fields_at
loop-n-init c =
    let few = places_few c.args.img.now 64 (inside c.args.img.now c.args.l) (after c.args.img.now c.args.l) in
    rw (c.into_iter-n-iterator.ensures.into_iter_gives, c.enumerate-n-items.ensures.count, c.enumerate-n-items.ensures.source, c.list.ensures)
    (((tt, tt, inl (omega (arith, few))), tt), omega (arith, few), refl)

pub returns-then-is_name : goal.returns-then-is_name
returns-then-is_name c =
    let steps = c.in-Some.ensures.steps in
    let fits = c.loop-n.invariant.1 in
    found_at c.args.img.now c.args.l c.args.x.now c.in-Some.n (omega (arith, fits, steps.1, ap length steps.0))
    (rw steps.1 (left_here c.args.img.now c.args.x.now _ steps.0 (rw (← c.body.ensures.0) (sym c.is_name.ensures ∙ c.if-is_name.true)) ∙ sym c.loop-n.invariant.2))

pub loop-n-preserved : goal.loop-n-preserved
loop-n-preserved c =
    let steps = c.in-Some.ensures.steps in
    let fits = c.loop-n.invariant.1 in
    let less = ap length steps.0 in (
      ((tt, tt, inl (omega (arith, fits, steps.2, less))), tt),
      omega (arith, fits, steps.2, less),
      c.loop-n.invariant.2 ∙ rw steps.2 (left_next c.args.img.now c.args.x.now _ steps.0 (rw (← c.body.ensures.0) (sym c.is_name.ensures ∙ c.if-is_name.false))),
    )

pub returns : goal.returns
returns c = found_none c.args.img.now c.args.l c.args.x.now (left_none c.args.img.now c.args.x.now _ c.in-None.ensures.steps.0.0 ∙ sym c.loop-n.invariant.2)
