-- init_clashing meets its contract.
use Rattle.lookup.proofs.Sorts.{init_same, init_unknown, init_yes}
use Rattle.lookup.specs.Answers.{ty_of}
use Rattle.lookup.proofs.init_clashing.Goals as goal

pub returns-then-same_type : goal.returns-then-same_type
returns-then-same_type c = init_same (ty_of c.args.img.now c.args.b) (ty_of c.args.img.now c.args.a) c.same_type.ensures c.if-same_type.true

pub returns-then-tag-eq4 : goal.returns-then-tag-eq4
returns-then-tag-eq4 c = init_unknown (ty_of c.args.img.now c.args.b) (ty_of c.args.img.now c.args.a) c.same_type.ensures c.if-same_type.false (c.tag.ensures c.args.img.now) c.if-tag-eq4.true

pub returns : goal.returns
returns c = init_yes (ty_of c.args.img.now c.args.b) (ty_of c.args.img.now c.args.a) c.same_type.ensures c.if-same_type.false (c.tag.ensures c.args.img.now) c.if-tag-eq4.false
