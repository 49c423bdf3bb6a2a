-- `opcode` meets its contract.
use Rattle.expr.proofs.Values.{op_other}
use Rattle.rules.specs.Read.{bin_op_of}
use borrow.Author.Rules.{rules}
use Rattle.expr.proofs.steps.opcode.Goals as goal

-- src/steps.rt:69:1
pub returns-in_default : goal.returns-in_default
returns-in_default c = op_other _ c.in_default.in_default-own.rest.0.0.0.0.0.0.0.0.0.1 c.in_default.in_default-own.rest.0.0.0.0.0.0.0.0.1 c.in_default.in_default-own.rest.0.0.0.0.0.0.0.1 c.in_default.in_default-own.rest.0.0.0.0.0.0.1 c.in_default.in_default-own.rest.0.0.0.0.0.1 c.in_default.in_default-own.rest.0.0.0.0.1 c.in_default.in_default-own.rest.0.0.0.1 c.in_default.in_default-own.rest.0.0.1 c.in_default.in_default-own.rest.0.1 c.in_default.in_default-own.rest.1

-- src/steps.rt:69:1
pub returns-in-0 : goal.returns-in-0
unfolding bin_op_of
returns-in-0 c = search rules

-- src/steps.rt:69:1
pub returns-in-1 : goal.returns-in-1
unfolding bin_op_of
returns-in-1 c = search rules

-- src/steps.rt:69:1
pub returns-in-2 : goal.returns-in-2
unfolding bin_op_of
returns-in-2 c = search rules

-- src/steps.rt:69:1
pub returns-in-3 : goal.returns-in-3
unfolding bin_op_of
returns-in-3 c = search rules

-- src/steps.rt:69:1
pub returns-in-4 : goal.returns-in-4
unfolding bin_op_of
returns-in-4 c = search rules

-- src/steps.rt:69:1
pub returns-in-5 : goal.returns-in-5
unfolding bin_op_of
returns-in-5 c = search rules

-- src/steps.rt:69:1
pub returns-in-6 : goal.returns-in-6
unfolding bin_op_of
returns-in-6 c = search rules

-- src/steps.rt:69:1
pub returns-in-7 : goal.returns-in-7
unfolding bin_op_of
returns-in-7 c = search rules

-- src/steps.rt:69:1
pub returns-in-8 : goal.returns-in-8
unfolding bin_op_of
returns-in-8 c = search rules

-- src/steps.rt:69:1
pub returns-in-9 : goal.returns-in-9
unfolding bin_op_of
returns-in-9 c = search rules
