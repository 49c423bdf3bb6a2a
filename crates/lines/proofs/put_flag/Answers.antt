-- `lines::put_flag` meets its contract.
use Rattle.std.proofs.Common.{sym, ◌∙◌}
use Rattle.rules.specs.Texts.{bytes}
use Rattle.lines.specs.Lengths.{no_flag, some_flag}
use Rattle.lines.proofs.put_flag.Goals as goal

pub returns-then-top-eq0 : goal.returns-then-top-eq0
returns-then-top-eq0 c = no_flag _ _ _ (sym c.top.ensures ∙ c.if-top-eq0.true)

pub put-requires : goal.put-requires
put-requires c = c.requires

pub returns : goal.returns
unfolding bytes
returns c = some_flag _ (λ z. c.if-top-eq0.false (c.top.ensures ∙ z)) c.put.ensures
