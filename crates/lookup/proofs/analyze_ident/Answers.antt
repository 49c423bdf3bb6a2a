-- analyze_ident meets its contract.
use Rattle.rules.specs.Analyse.{expr}
use Rattle.lookup.specs.Answers.{fault_of}
use Rattle.lookup.proofs.Fits.{typed_known}
use Rattle.lookup.proofs.analyze_ident.Goals as goal

pub returns : goal.returns
unfolding fault_of expr
returns c = rw c.ok_or.ensures.value (rw c.body-x.ensures.0 (typed_known c.args.img.now c.find_local.result _ (rw c.body-x.ensures.0 at c.find_local.ensures)))
