-- refusal meets its contract.
use Rattle.lookup.specs.Answers.{fault_of}
use Rattle.rules.specs.Refusal.{refused}
use Rattle.sema.proofs.refusal.Goals as goal

pub returns-in-Ident : goal.returns-in-Ident
unfolding fault_of refused
returns-in-Ident c = λ img. rw c.in-Ident.is c.of.ensures

pub returns-in-Target : goal.returns-in-Target
unfolding fault_of refused
returns-in-Target c = λ img. rw c.in-Target.is c.of-in-Target.ensures

pub returns-in-Assign : goal.returns-in-Assign
unfolding fault_of refused
returns-in-Assign c = λ img. rw c.in-Assign.is c.of-in-Assign.ensures

pub returns-in-Return : goal.returns-in-Return
unfolding fault_of refused
returns-in-Return c = λ img. rw c.in-Return.is c.of-in-Return.ensures

pub returns-in-NoField : goal.returns-in-NoField
unfolding fault_of refused
returns-in-NoField c = λ img. rw c.in-NoField.is c.of-in-NoField.ensures

pub returns-in-NotStruct : goal.returns-in-NotStruct
unfolding fault_of refused
returns-in-NotStruct c = λ img. rw c.in-NotStruct.is c.of-in-NotStruct.ensures

pub returns-in-InitType : goal.returns-in-InitType
unfolding fault_of refused
returns-in-InitType c = λ img. rw c.in-InitType.is c.of-in-InitType.ensures

pub returns-in-InitField : goal.returns-in-InitField
unfolding fault_of refused
returns-in-InitField c = λ img. rw c.in-InitField.is c.of-in-InitField.ensures

pub returns-in-NoStruct : goal.returns-in-NoStruct
unfolding fault_of refused
returns-in-NoStruct c = λ img. rw c.in-NoStruct.is c.of-in-NoStruct.ensures

pub returns-in-ArgCount : goal.returns-in-ArgCount
unfolding fault_of refused
returns-in-ArgCount c = λ img. rw c.in-ArgCount.is c.of-in-ArgCount.ensures

pub returns-in-ArgType : goal.returns-in-ArgType
unfolding fault_of refused
returns-in-ArgType c = λ img. rw c.in-ArgType.is c.of-in-ArgType.ensures

pub returns-in-NoFunction : goal.returns-in-NoFunction
unfolding fault_of refused
returns-in-NoFunction c = λ img. rw c.in-NoFunction.is c.of-in-NoFunction.ensures

pub returns-in-Operands : goal.returns-in-Operands
unfolding fault_of refused
returns-in-Operands c = λ img. rw c.in-Operands.is c.of-in-Operands.ensures
