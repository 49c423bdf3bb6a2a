-- `wording::put_type` meets its contract: each arm is a line of the table.
use Rattle.rules.specs.Texts.{bytes, type_text}
use Rattle.lookup.specs.Answers.{ty_of}
use Rattle.wording.proofs.put_type.Goals as goal

pub put-requires : goal.put-requires
unfolding type_text ty_of bytes
put-requires c = rw c.in-U64.is at c.requires

pub put-requires-in-Bool : goal.put-requires-in-Bool
unfolding type_text ty_of bytes
put-requires-in-Bool c = rw c.in-Bool.is at c.requires

pub put-requires-in-Field : goal.put-requires-in-Field
unfolding type_text ty_of bytes
put-requires-in-Field c = rw c.in-Field.is at c.requires

pub put-requires-in-Void : goal.put-requires-in-Void
unfolding type_text ty_of bytes
put-requires-in-Void c = rw c.in-Void.is at c.requires

pub put-requires-in-Unknown : goal.put-requires-in-Unknown
unfolding type_text ty_of bytes
put-requires-in-Unknown c = rw c.in-Unknown.is at c.requires

pub put_struct-requires : goal.put_struct-requires
unfolding type_text ty_of bytes
put_struct-requires c = rw c.in-Struct.is at c.requires

pub returns-in-U64 : goal.returns-in-U64
unfolding type_text ty_of bytes
returns-in-U64 c = rw c.in-U64.is c.put.ensures

pub returns-in-Bool : goal.returns-in-Bool
unfolding type_text ty_of bytes
returns-in-Bool c = rw c.in-Bool.is c.put-in-Bool.ensures

pub returns-in-Field : goal.returns-in-Field
unfolding type_text ty_of bytes
returns-in-Field c = rw c.in-Field.is c.put-in-Field.ensures

pub returns-in-Void : goal.returns-in-Void
unfolding type_text ty_of bytes
returns-in-Void c = rw c.in-Void.is c.put-in-Void.ensures

pub returns-in-Unknown : goal.returns-in-Unknown
unfolding type_text ty_of bytes
returns-in-Unknown c = rw c.in-Unknown.is c.put-in-Unknown.ensures

pub returns-in-Struct : goal.returns-in-Struct
unfolding type_text ty_of bytes
returns-in-Struct c = rw c.in-Struct.is c.put_struct.ensures
