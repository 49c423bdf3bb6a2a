-- `image::read::each_name`: the bytes from `p` on decide as all of them did at the start.
use mathlib.Core.Path.{◌∙◌, refl, sym, ap}
use Rattle.rules.specs.Bytes.{name_byte_lem}
use Rattle.image.proofs.Names.{name_end, name_stop, name_more}
use Rattle.image.proofs.read.each_name.Goals as goal

pub loop-p-init : goal.loop-p-init
loop-p-init c = refl

pub loop-p-preserved : goal.loop-p-preserved
loop-p-preserved c = c.loop-p.invariant ∙ name_more c.args.s.now c.loop-p.p _ c.loop-p-test.true
    (ap name_byte_lem (sym c.from.ensures) ∙ sym c.name_byte.ensures ∙ c.if-not-name_byte.false)

pub returns-then-not-name_byte : goal.returns-then-not-name_byte
returns-then-not-name_byte c = sym (c.loop-p.invariant ∙ name_stop c.args.s.now c.loop-p.p _ c.loop-p-test.true
    (ap name_byte_lem (sym c.from.ensures) ∙ sym c.name_byte.ensures ∙ c.if-not-name_byte.true))

pub returns : goal.returns
returns c = sym (c.loop-p.invariant ∙ name_end c.args.s.now c.loop-p.p _ c.loop-p-test.false)
