-- is_newest meets its contract.
use Rattle.fields.proofs.Kept.{newest, newest_none}
use Rattle.tables.specs.Listed.{index_of}
use mathlib.Core.Path.{sym, ap, ◌∙◌}
use Rattle.fields.proofs.is_newest.Goals as goal

pub returns-in-Some : goal.returns-in-Some
unfolding index_of
returns-in-Some c = newest c.args.contract.now.img.now c.args.i c.args.x c.requires.0 c.requires.1 _ (sym (ap index_of c.in-Some.is) ∙ c.struct_named.ensures.index)

pub returns-in-None : goal.returns-in-None
unfolding index_of
returns-in-None c = absurd (newest_none c.args.contract.now.img.now c.args.i c.args.x c.requires.0 c.requires.1 (sym (ap index_of c.in-None.is) ∙ c.struct_named.ensures.index))
