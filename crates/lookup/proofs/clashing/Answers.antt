-- clashing meets its contract.
use Rattle.lookup.proofs.Sorts.{clash_left, clash_right, clash_same, clash_yes}
use Rattle.lookup.specs.Answers.{ty_of}
use Rattle.lookup.proofs.clashing.Goals as goal

pub returns-then-same_type : goal.returns-then-same_type
returns-then-same_type c = clash_same (ty_of c.args.img.now c.args.a) (ty_of c.args.img.now c.args.b) c.same_type.ensures c.if-same_type.true

pub returns-then-tag-eq4 : goal.returns-then-tag-eq4
returns-then-tag-eq4 c = clash_left (ty_of c.args.img.now c.args.a) (ty_of c.args.img.now c.args.b) c.same_type.ensures c.if-same_type.false (c.tag.ensures c.args.img.now) c.if-tag-eq4.true

pub returns-then-tag-eq4-2 : goal.returns-then-tag-eq4-2
returns-then-tag-eq4-2 c = clash_right (ty_of c.args.img.now c.args.a) (ty_of c.args.img.now c.args.b) c.same_type.ensures c.if-same_type.false (c.tag.ensures c.args.img.now) c.if-tag-eq4.false (c.tag-2.ensures c.args.img.now) c.if-tag-eq4-2.true

pub returns : goal.returns
returns c = clash_yes (ty_of c.args.img.now c.args.a) (ty_of c.args.img.now c.args.b) c.same_type.ensures c.if-same_type.false (c.tag.ensures c.args.img.now) c.if-tag-eq4.false (c.tag-2.ensures c.args.img.now) c.if-tag-eq4-2.false
