-- `compiler::table::param_count`: the records that are counted are the Fields that are read.
use mathlib.Core.Path.{sym, ◌∙◌}
use lib.ListN.{length-map}
use Rattle.rules.specs.Bytes.{inside, after}
use Rattle.rules.specs.Read.{places_from, second, field_at, fields_at, function_at}
use Rattle.compiler.proofs.table.param_count.Goals as goal

-- src/table.rt:13:1
pub returns : goal.returns
unfolding function_at fields_at
returns c = (rw (c.body-2.ensures.0, c.past.ensures.0, c.past-list.ensures.0, c.body.ensures.0) at c.count.ensures) ∙ sym (length-map (places_from 512 c.args.img.now (inside c.args.img.now (second c.args.img.now c.args.f)) (after c.args.img.now (second c.args.img.now c.args.f))) (field_at c.args.img.now))
