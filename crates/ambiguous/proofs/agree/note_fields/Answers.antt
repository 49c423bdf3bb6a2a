-- note_fields meets its contract.
use Rattle.std.proofs.Common.{arith, ap, length, inl, refl, ◌∙◌}
use Rattle.rules.specs.Bytes.{inside, after}
use Rattle.records.specs.Names.{never}
use Rattle.records.specs.Places.{places_few}
use Rattle.ambiguous.proofs.Agreed.{ext_refl, ext_trans, begin_fields, end_fields, one_field}
use Rattle.ambiguous.proofs.agree.note_fields.Goals as goal

pub loop-n-init : goal.loop-n-init
loop-n-init c =
    let few = places_few c.args.img.now 64 (inside c.args.img.now c.args.l) (after c.args.img.now c.args.l) in
    rw (c.into_iter-n-iterator.ensures.into_iter_gives, c.enumerate-n-items.ensures.count, c.enumerate-n-items.ensures.source, c.list.ensures)
    (((tt, tt, inl (omega (arith, few))), tt), refl, omega (arith, few), ext_refl c.args.seen.now, begin_fields c.args.img.now c.args.l c.args.seen.now)

pub note-requires : goal.note-requires
note-requires c =
    let steps = c.in-Some.ensures.steps in
    let less = ap length steps.0 in
    (omega (arith, c.loop-n.invariant.2, steps.1, less), omega (arith, c.loop-n.invariant.1))

pub loop-n-preserved : goal.loop-n-preserved
loop-n-preserved c =
    let steps = c.in-Some.ensures.steps in
    let fits = c.loop-n.invariant.2 in
    let less = ap length steps.0 in
    let noted = c.note.ensures c.if-not-note.false in (
      ((tt, tt, inl (omega (arith, fits, steps.2, less))), tt),
      c.note.auto.seen ∙ c.loop-n.invariant.1,
      omega (arith, fits, steps.2, less),
      ext_trans c.loop-n.invariant.3 noted.extends,
      rw steps.2 (one_field c.args.img.now c.args.l _ _ _ steps.0 c.loop-n.invariant.4 (rw (c.name_key-key.ensures, c.body.ensures.0, steps.1) at noted)),
    )

pub shape_of-seen-then-not-note : goal.shape_of-seen-then-not-note
shape_of-seen-then-not-note c = c.note.auto.seen ∙ c.loop-n.invariant.1

pub returns-then-not-note : goal.returns-then-not-note
returns-then-not-note c = λ e. never e

pub shape_of-seen : goal.shape_of-seen
shape_of-seen c = c.loop-n.invariant.1

pub returns : goal.returns
returns c = λ _. (c.loop-n.invariant.3, end_fields c.args.img.now c.args.l _ _ c.in-None.ensures.steps.0.0 c.loop-n.invariant.4)
