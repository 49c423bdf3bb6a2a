-- `step_expr` meets its contract.
use native.Mathlib.Omega.{arith}
use mathlib.Core.Path.{ap}
use Rattle.rules.specs.Bytes.{pick}
use Rattle.rules.specs.Read.{kind_of, kMapping, kAccess, kLiteral, kBinary, kCall}
use Rattle.seek.specs.Parts.{kind_in, kind_own}
use Rattle.seek.proofs.step_expr.Goals as goal

pub returns-in-67 : goal.returns-in-67
unfolding kind_of pick
returns-in-67 c = kind_in kMapping c.kind.ensures.0 (ap kind_of c.in-67.is) c.in_mapping.ensures

pub returns-in-68 : goal.returns-in-68
unfolding kind_of pick
returns-in-68 c = kind_in kAccess c.kind.ensures.0 (ap kind_of c.in-68.is) c.in_field.ensures

pub returns-in-69 : goal.returns-in-69
unfolding kind_of pick
returns-in-69 c = kind_in kLiteral c.kind.ensures.0 (ap kind_of c.in-69.is) c.in_literal.ensures

pub returns-in-70 : goal.returns-in-70
unfolding kind_of pick
returns-in-70 c = kind_in kBinary c.kind.ensures.0 (ap kind_of c.in-70.is) c.in_binary.ensures

pub returns-in-71 : goal.returns-in-71
unfolding kind_of pick
returns-in-71 c = kind_in kCall c.kind.ensures.0 (ap kind_of c.in-71.is) c.in_call.ensures

pub returns-in_default : goal.returns-in_default
returns-in_default c = kind_own c.kind.ensures.0 (omega arith) (omega arith) (omega arith) (omega arith) (omega arith) c.own.ensures
