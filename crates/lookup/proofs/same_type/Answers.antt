-- same_type meets its contract.
use Rattle.lookup.proofs.Sorts.{other_tags, low_tags, same_tags}
use Rattle.lookup.specs.Answers.{ty_of}
use mathlib.Core.Path.{◌∙◌}
use Rattle.lookup.proofs.same_type.Goals as goal

pub returns-then-k-tag : goal.returns-then-k-tag
returns-then-k-tag c = let o = c.args in other_tags (ty_of o.img.now o.a) (ty_of o.img.now o.b) (c.tag-k.ensures o.img.now) (c.tag.ensures o.img.now) c.if-k-tag.true

pub returns-then-k-lt5 : goal.returns-then-k-lt5
returns-then-k-lt5 c = let o = c.args in low_tags (ty_of o.img.now o.a) (ty_of o.img.now o.b) (c.tag-k.ensures o.img.now) (c.tag.ensures o.img.now) c.if-k-tag.false c.if-k-lt5.true

pub returns : goal.returns
returns c = let o = c.args in
    c.same_name.ensures ∙ same_tags (ty_of o.img.now o.a) (ty_of o.img.now o.b) (c.tag-k.ensures o.img.now) (c.tag.ensures o.img.now) c.if-k-tag.false c.name_place.ensures c.name_place-2.ensures
