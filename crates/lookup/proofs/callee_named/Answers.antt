-- callee_named meets its contract.
use Rattle.lookup.proofs.Signs.{sig_builtin, sig_none, sig_user}
use Rattle.lookup.specs.Answers.{sig_at}
use Rattle.rules.specs.Bytes.{name_at}
use Rattle.rules.specs.Read.{contract_at}
use Rattle.rules.specs.Tables.{mapped}
use Rattle.tables.specs.Carried.{function_is}
use Rattle.tables.specs.Listed.{place_of}
use Rattle.lookup.proofs.callee_named.Goals as goal

pub returns-in-Some : goal.returns-in-Some
unfolding sig_at
returns-in-Some c = sig_builtin (contract_at c.args.contract.now.img.now) (name_at c.args.contract.now.img.now c.args.x) c.in-Some.ensures

pub returns-in-Some-function_named : goal.returns-in-Some-function_named
unfolding sig_at place_of mapped
returns-in-Some-function_named c = sig_user (contract_at c.args.contract.now.img.now) (name_at c.args.contract.now.img.now c.args.x) c.in_default.ensures (function_is c.args.contract.now.img.now c.args.x _ c.in-Some-function_named.ensures)

pub returns-in-None : goal.returns-in-None
unfolding sig_at place_of mapped
returns-in-None c = sig_none (contract_at c.args.contract.now.img.now) (name_at c.args.contract.now.img.now c.args.x) c.in_default.ensures (function_is c.args.contract.now.img.now c.args.x _ c.in-None.ensures)
