-- `entries::fill`: none of the entries is what was lent, and one more is a store.
use Rattle.std.proofs.Common.{set, ap, ◌∙◌}
use Rattle.rules.specs.Lent.{over}
use Rattle.entries.specs.Rows.{entries_of, rows_none, rows_more}
use Rattle.entries.proofs.fill.Goals as goal

pub loop-k-init : goal.loop-k-init
loop-k-init c = rows_none c.args.contract.now.img.now c.args.firsts.now c.args.table.now

pub loop-k-preserved : goal.loop-k-preserved
loop-k-preserved c =
    ap (λ t. set t c.loop-k.k c.entry_no.result) c.loop-k.invariant
    ∙ ap (λ e. set (over (entries_of c.args.contract.now.img.now c.args.firsts.now c.loop-k.k) c.args.table.now) c.loop-k.k e) c.entry_no.ensures
    ∙ rows_more c.args.contract.now.img.now c.args.firsts.now c.loop-k.k c.args.table.now
