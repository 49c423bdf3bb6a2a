-- last_named meets its contract.
use mathlib.Core.Path.{sym, ◌∙◌}
use native.Mathlib.Omega.{arith}
use Rattle.tables.proofs.Search.{older, start, skip, hit, miss}
use Rattle.tables.proofs.last_named.Goals as goal

pub bounds-t-base : goal.bounds-t-base
bounds-t-base c = omega (arith, c.requires.1.room)

pub loop-k-init : goal.loop-k-init
loop-k-init c = let s = start c.args.img.now c.args.t.now c.args.base c.args.x in rw c.name_key-key.ensures (omega (arith, c.requires.1.room, (s c.requires.0 c.requires.1).within), s)

pub returns-then-same_name : goal.returns-then-same_name
returns-then-same_name c = rw c.place_in-p.ensures (hit c.args.img.now c.args.t.now c.args.base c.args.x c.loop-k.k c.loop-k-test.true c.loop-k.invariant.1 (rw (← c.place_in-p.ensures, ← c.body.ensures.0) (sym c.same_name.ensures ∙ c.if-same_name.true)))

pub loop-k-smaller : goal.loop-k-smaller
loop-k-smaller c = rw c.number_in-k.ensures (older c.args.img.now c.args.t.now c.args.base c.args.x c.loop-k.k c.loop-k-test.true c.requires.0 c.requires.1 (c.loop-k.invariant.1 c.requires.0 c.requires.1).within)

pub loop-k-preserved : goal.loop-k-preserved
loop-k-preserved c = rw c.number_in-k.ensures (omega (arith, older c.args.img.now c.args.t.now c.args.base c.args.x c.loop-k.k c.loop-k-test.true c.requires.0 c.requires.1 (c.loop-k.invariant.1 c.requires.0 c.requires.1).within, c.loop-k.invariant.0), skip c.args.img.now c.args.t.now c.args.base c.args.x c.loop-k.k c.loop-k-test.true c.loop-k.invariant.1 (rw (← c.place_in-p.ensures, ← c.body.ensures.0) (sym c.same_name.ensures ∙ c.if-same_name.false)))

pub returns : goal.returns
returns c = miss c.args.img.now c.args.t.now c.args.base c.args.x c.loop-k.k c.loop-k-test.false c.loop-k.invariant.1
