-- fit_call meets its contract.
use Rattle.lookup.proofs.Fits.{fit_count, fit_type}
use Rattle.lookup.specs.Answers.{fault_of, misfit_of, ret_of, sig_at, typed_of}
use Rattle.rules.specs.Analyse.{fits, params_of}
use Rattle.rules.specs.Bytes.{name_at}
use Rattle.rules.specs.Refusal.{ok}
use mathlib.Core.Path.{ap}
use Rattle.lookup.proofs.fit_call.Goals as goal

pub returns-in-None : goal.returns-in-None
unfolding typed_of fits misfit_of
returns-in-None c = fit_type c.args.at (name_at c.args.img.now c.args.x) c.args.n (misfit_of c.args.m) (params_of (sig_at c.args.img.now c.args.c)) (ret_of (sig_at c.args.img.now c.args.c)) (rw c.dues.ensures at c.due_count-k.ensures) c.if-k-n.false (rw c.in-None.is (ap ok c.ret.ensures))

pub returns-in-Some : goal.returns-in-Some
unfolding typed_of fault_of fits misfit_of
returns-in-Some c = fit_type c.args.at (name_at c.args.img.now c.args.x) c.args.n (misfit_of c.args.m) (params_of (sig_at c.args.img.now c.args.c)) (ret_of (sig_at c.args.img.now c.args.c)) (rw c.dues.ensures at c.due_count-k.ensures) c.if-k-n.false (rw c.in-Some.is)

pub returns-then-k-n : goal.returns-then-k-n
unfolding typed_of fault_of
returns-then-k-n c = fit_count c.args.at (name_at c.args.img.now c.args.x) c.args.n (misfit_of c.args.m) (params_of (sig_at c.args.img.now c.args.c)) (ret_of (sig_at c.args.img.now c.args.c)) (rw c.dues.ensures at c.due_count-k.ensures) c.if-k-n.true
