-- `wording::fault` meets its contract: each arm is a line of the table.
use Rattle.rules.specs.Texts.{bytes, text_of}
use Rattle.lookup.specs.Answers.{fault_of}
use Rattle.wording.proofs.fault.Goals as goal

pub named-requires : goal.named-requires
unfolding text_of fault_of bytes
named-requires c = rw c.in-Ident.is at c.requires

pub named-requires-in-Target : goal.named-requires-in-Target
unfolding text_of fault_of bytes
named-requires-in-Target c = rw c.in-Target.is at c.requires

pub types-requires : goal.types-requires
unfolding text_of fault_of bytes
types-requires c = rw c.in-Assign.is at c.requires

pub types-requires-in-Return : goal.types-requires-in-Return
unfolding text_of fault_of bytes
types-requires-in-Return c = rw c.in-Return.is at c.requires

pub no_field-requires : goal.no_field-requires
unfolding text_of fault_of bytes
no_field-requires c = rw c.in-NoField.is at c.requires

pub put-requires : goal.put-requires
unfolding text_of fault_of bytes
put-requires c = rw c.in-NotStruct.is at c.requires

pub init_type-requires : goal.init_type-requires
unfolding text_of fault_of bytes
init_type-requires c = rw c.in-InitType.is at c.requires

pub named-requires-in-InitField : goal.named-requires-in-InitField
unfolding text_of fault_of bytes
named-requires-in-InitField c = rw c.in-InitField.is at c.requires

pub named-requires-in-NoStruct : goal.named-requires-in-NoStruct
unfolding text_of fault_of bytes
named-requires-in-NoStruct c = rw c.in-NoStruct.is at c.requires

pub arg_count-requires : goal.arg_count-requires
unfolding text_of fault_of bytes
arg_count-requires c = rw c.in-ArgCount.is at c.requires

pub arg_type-requires : goal.arg_type-requires
unfolding text_of fault_of bytes
arg_type-requires c = rw c.in-ArgType.is at c.requires

pub named-requires-in-NoFunction : goal.named-requires-in-NoFunction
unfolding text_of fault_of bytes
named-requires-in-NoFunction c = rw c.in-NoFunction.is at c.requires

pub put-requires-in-Operands : goal.put-requires-in-Operands
unfolding text_of fault_of bytes
put-requires-in-Operands c = rw c.in-Operands.is at c.requires

pub returns-in-Ident : goal.returns-in-Ident
unfolding text_of fault_of bytes
returns-in-Ident c = rw c.in-Ident.is c.named.ensures

pub returns-in-Target : goal.returns-in-Target
unfolding text_of fault_of bytes
returns-in-Target c = rw c.in-Target.is c.named-in-Target.ensures

pub returns-in-Assign : goal.returns-in-Assign
unfolding text_of fault_of bytes
returns-in-Assign c = rw c.in-Assign.is c.types.ensures

pub returns-in-Return : goal.returns-in-Return
unfolding text_of fault_of bytes
returns-in-Return c = rw c.in-Return.is c.types-in-Return.ensures

pub returns-in-NoField : goal.returns-in-NoField
unfolding text_of fault_of bytes
returns-in-NoField c = rw c.in-NoField.is c.no_field.ensures

pub returns-in-NotStruct : goal.returns-in-NotStruct
unfolding text_of fault_of bytes
returns-in-NotStruct c = rw c.in-NotStruct.is c.put.ensures

pub returns-in-InitType : goal.returns-in-InitType
unfolding text_of fault_of bytes
returns-in-InitType c = rw c.in-InitType.is c.init_type.ensures

pub returns-in-InitField : goal.returns-in-InitField
unfolding text_of fault_of bytes
returns-in-InitField c = rw c.in-InitField.is c.named-in-InitField.ensures

pub returns-in-NoStruct : goal.returns-in-NoStruct
unfolding text_of fault_of bytes
returns-in-NoStruct c = rw c.in-NoStruct.is c.named-in-NoStruct.ensures

pub returns-in-ArgCount : goal.returns-in-ArgCount
unfolding text_of fault_of bytes
returns-in-ArgCount c = rw c.in-ArgCount.is c.arg_count.ensures

pub returns-in-ArgType : goal.returns-in-ArgType
unfolding text_of fault_of bytes
returns-in-ArgType c = rw c.in-ArgType.is c.arg_type.ensures

pub returns-in-NoFunction : goal.returns-in-NoFunction
unfolding text_of fault_of bytes
returns-in-NoFunction c = rw c.in-NoFunction.is c.named-in-NoFunction.ensures

pub returns-in-Operands : goal.returns-in-Operands
unfolding text_of fault_of bytes
returns-in-Operands c = rw c.in-Operands.is c.put-in-Operands.ensures
