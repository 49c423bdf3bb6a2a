-- `replay::roomed`: the parts that it lends are there.
use mathlib.Core.Path.{sym}
use lib.Seq.{length-take-le}
use Rattle.replay.proofs.roomed.Goals as goal

pub slice_bounds-built-end-2 : goal.slice_bounds-built-end-2
slice_bounds-built-end-2 c = sym (length-take-le c.least-words.result c.args.code.now c.least-words.ensures)

pub slice_bounds-built-end-4 : goal.slice_bounds-built-end-4
slice_bounds-built-end-4 c = sym (length-take-le c.least-entries.result c.args.table.now c.least-entries.ensures)
