-- `records::count` meets its contract: few records are left, so that they can be counted.
use Rattle.std.proofs.Common.{arith, inl}
use Rattle.records.specs.Places.{places_few}
use Rattle.records.proofs.count.Goals as goal

pub count-requires-clause-fits : goal.count-requires-clause-fits
count-requires-clause-fits c = inl (omega (arith, places_few c.args.img.now c.args.most c.args.at c.args.end))
