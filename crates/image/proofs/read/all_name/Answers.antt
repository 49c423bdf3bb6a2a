-- `image::read::all_name`: the bytes before `p` are of a name; where the few or the eight from there on are not told, one by one decides.
use mathlib.Core.Path.{sym}
use native.Mathlib.Omega.{arith}
use Rattle.image.proofs.Names.{all_named, eight_more, last_eight}
use Rattle.image.proofs.read.all_name.Goals as goal

pub returns-then-few_name : goal.returns-then-few_name
returns-then-few_name c = sym (all_named c.args.s.now c.args.from c.args.to (omega arith) (c.few_name.ensures c.if-few_name.true))

pub loop-p-init : goal.loop-p-init
loop-p-init c = (omega arith, omega arith, λ k l m. absurd (omega arith))

pub loop-p-smaller : goal.loop-p-smaller
loop-p-smaller c = omega arith

pub loop-p-preserved : goal.loop-p-preserved
loop-p-preserved c = (omega (arith, c.loop-p.invariant.0), omega arith, eight_more c.args.s.now c.args.from c.loop-p.p c.args.to c.loop-p.invariant.2 (c.fours_name.ensures c.if-fours_name.true))

pub returns-then-fours_name-2 : goal.returns-then-fours_name-2
returns-then-fours_name-2 c = sym (all_named c.args.s.now c.args.from c.args.to (omega arith) (last_eight c.args.s.now c.args.from c.loop-p.p c.args.to c.loop-p.invariant.2 c.min-q.result c.min-q.ensures (omega arith) (omega arith) (c.fours_name-2.ensures c.if-fours_name-2.true)))
