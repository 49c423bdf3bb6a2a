-- tag meets its contract.
use Rattle.lookup.specs.Answers.{ty_of}
use Rattle.rules.specs.Types.{tag_of}
use Rattle.lookup.proofs.tag.Goals as goal

pub returns-in-U64 : goal.returns-in-U64
unfolding ty_of tag_of
returns-in-U64 c = λ img. rw c.in-U64.is

pub returns-in-Bool : goal.returns-in-Bool
unfolding ty_of tag_of
returns-in-Bool c = λ img. rw c.in-Bool.is

pub returns-in-Field : goal.returns-in-Field
unfolding ty_of tag_of
returns-in-Field c = λ img. rw c.in-Field.is

pub returns-in-Void : goal.returns-in-Void
unfolding ty_of tag_of
returns-in-Void c = λ img. rw c.in-Void.is

pub returns-in-Unknown : goal.returns-in-Unknown
unfolding ty_of tag_of
returns-in-Unknown c = λ img. rw c.in-Unknown.is

pub returns-in-Struct : goal.returns-in-Struct
unfolding ty_of tag_of
returns-in-Struct c = λ img. rw c.in-Struct.is
