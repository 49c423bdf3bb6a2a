-- gen_let does the steps of its statement.
use native.Mathlib.Omega.{arith}
use Rattle.rules.specs.Read.{stmt_as}
use Rattle.bounds.specs.Sizes.{vars}
use Rattle.emit.specs.Steps.{gen_stmt_lem}
use Rattle.emit.specs.Ran.{raw}
use Rattle.emit.specs.Refines.{seq}
use Rattle.stmt.specs.Runs.{lets}
use Rattle.stmt.proofs.gen_let.Goals as goal

pub bind-requires : goal.bind-requires
unfolding vars stmt_as
bind-requires c = (omega (arith, c.requires.names), (c.requires.size, c.args.analysed.now.contract.tabled.small))

pub returns : goal.returns
unfolding gen_stmt_lem stmt_as vars lets
returns c = record {
  ran = rw (c.bind.ensures.scope, c.body-name.ensures.0) (seq (raw _) _ (rw (c.past-value.ensures.0, c.body-name.ensures.0) at c.gen_expr-v.ensures) (c.let_reg-r.ensures.ran _ _ _));
  frame = c.bind.ensures.frame;
}
