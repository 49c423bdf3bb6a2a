-- analyze_function meets its contract.
use Rattle.lookup.specs.Results.{handed_on}
use Rattle.notes.specs.Wrote.{refused, wrote}
use Rattle.rules.specs.Meant.{of_function}
use Rattle.lookup.specs.Answers.{checked_of, env_of}
use Rattle.rules.specs.Read.{contract_at, fields_at, function_at}
use Rattle.sema.proofs.Bodies.{function_bad, function_ok, names_at}
use Rattle.sema.proofs.Runs.{answered, stopped, told}
use mathlib.Core.Path.{◌∙◌, refl}
use native.Mathlib.Omega.{arith}
use Rattle.sema.proofs.analyze_function.Goals as goal

pub push_params-top-requires : goal.push_params-top-requires
push_params-top-requires c = (rw (c.past-params.ensures.0, c.body.ensures.0) (omega (arith, names_at c.args.contract.now.img.now c.args.p, c.requires)), c.args.contract.now.tabled.small)

pub analyze_list-requires : goal.analyze_list-requires
analyze_list-requires c = rw (c.past-body.ensures.0, c.past.ensures.0, c.past-gives.ensures.0, c.past-params.ensures.0, c.body.ensures.0) (omega (arith, names_at c.args.contract.now.img.now c.args.p, c.requires, (rw (c.past-params.ensures.0, c.body.ensures.0) at c.push_params-top.ensures).next, (rw (c.past-params.ensures.0, c.body.ensures.0) at c.push_params-top.ensures).size))

pub returns : goal.returns
unfolding checked_of of_function function_at fields_at env_of
returns c = (function_ok (contract_at c.args.contract.now.img.now) (function_at c.args.contract.now.img.now c.args.p) (rw (c.user_ret-ret.ensures, c.past-body.ensures.0, c.past.ensures.0, c.past-gives.ensures.0, c.past-params.ensures.0, c.body.ensures.0, (rw (c.past-params.ensures.0, c.body.ensures.0) at c.push_params-top.ensures).more) at (answered c.in_ok-analyze_list.ensures refl)), (c.in_ok-analyze_list.ensures.size ∙ c.push_params-top.ensures.size, wrote (contract_at c.args.contract.now.img.now) _ (rw (c.user_ret-ret.ensures, c.past-body.ensures.0, c.past.ensures.0, c.past-gives.ensures.0, c.past-params.ensures.0, c.body.ensures.0, (rw (c.past-params.ensures.0, c.body.ensures.0) at c.push_params-top.ensures).more) at (told c.in_ok-analyze_list.ensures refl))))

pub returns-in_err-analyze_list : goal.returns-in_err-analyze_list
unfolding checked_of function_at fields_at env_of
returns-in_err-analyze_list c = rw (handed_on _ _ c.from_residual.ensures.1) ((function_bad (contract_at c.args.contract.now.img.now) (function_at c.args.contract.now.img.now c.args.p) (rw (c.user_ret-ret.ensures, c.past-body.ensures.0, c.past.ensures.0, c.past-gives.ensures.0, c.past-params.ensures.0, c.body.ensures.0, (rw (c.past-params.ensures.0, c.body.ensures.0) at c.push_params-top.ensures).more) at (stopped c.in_err-analyze_list.ensures refl)), (c.in_err-analyze_list.ensures.size ∙ c.push_params-top.ensures.size, refused (contract_at c.args.contract.now.img.now) _ _ refl)))
