-- `in_user` meets its contract.
use mathlib.Core.Path.{sym, ◌∙◌}
use borrow.Author.Rules.{rules}
use Rattle.seek.specs.Parts.{at_saved, user_first, user_in, user_call, user_own}
use Rattle.seek.proofs.in_user.Goals as goal

pub returns-then-want-a : goal.returns-then-want-a
returns-then-want-a c = user_first c.less_one-k.ensures c.saved-a.ensures c.if-want-a.true c.own.ensures

pub returns-then-eq : goal.returns-then-eq
returns-then-eq c = user_in c.less_one-k.ensures c.saved-a.ensures c.if-want-a.false (search rules) (at_saved c.saved-a.ensures c.in_list-r.ensures)

pub returns-then-is_call : goal.returns-then-is_call
returns-then-is_call c = user_call c.less_one-k.ensures c.saved-a.ensures c.if-want-a.false (search rules) (at_saved c.saved-a.ensures c.in_list-r.ensures) (sym c.is_call.ensures ∙ c.if-is_call.true) c.body.ensures.0 c.function_index.ensures c.call.ensures

pub returns : goal.returns
returns c = user_own c.less_one-k.ensures c.saved-a.ensures c.if-want-a.false (search rules) (at_saved c.saved-a.ensures c.in_list-r.ensures) (sym c.is_call.ensures ∙ c.if-is_call.false) c.own-2.ensures
