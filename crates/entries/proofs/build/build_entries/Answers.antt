-- `entries::build::build_entries`: what `work` leaves fits `fill`, and either way the whole answer is that of the build.
use Rattle.std.proofs.Common.{arith, rules, refl, length}
use Rattle.rules.specs.Read.{fourth}
use Rattle.rules.specs.Build as made
use Rattle.tables.specs.Carried.{few}
use Rattle.tables.specs.Listed.{functions_in}
use Rattle.entries.specs.Endings.{accepted, refused_one}
use Rattle.entries.proofs.build.build_entries.Goals as goal
use Rattle.entries.proofs.build.build_entries.Goals.{then-m-eq0, else-m-eq0}

pub invariant_of-contract : goal.invariant_of-contract
invariant_of-contract c =
    record {
      tabled = (accepted made.rules c.args.image.now c.args.code.now c.args.table.now c.work-m.result.answer c.work-m.new.code c.work-m.result.firsts c.work-m.result.tables c.work-m.ensures
          (search rules) (length (functions_in c.args.image.now)) (λ _. refl)).tabled;
    }

pub fill-requires : goal.fill-requires
fill-requires c =
    let fit =
    accepted made.rules c.args.image.now c.args.code.now c.args.table.now c.work-m.result.answer c.work-m.new.code c.work-m.result.firsts c.work-m.result.tables c.work-m.ensures
    (search rules) (length (functions_in c.args.image.now)) (λ _. refl) in
    (omega (arith, few 256 c.args.image.now (fourth c.args.image.now 0)), fit.room)

pub returns : goal.returns
returns c =
    let fits = accepted made.rules c.args.image.now c.args.code.now c.args.table.now c.work-m.result.answer c.work-m.new.code c.work-m.result.firsts c.work-m.result.tables c.work-m.ensures in
    let ends = refused_one made.rules c.args.image.now c.args.code.now c.args.table.now c.work-m.result.answer c.work-m.new.code c.work-m.result.firsts c.work-m.result.tables c.work-m.ensures in
    elim c.if-m-eq0.branch [
      | then-m-eq0 w ↦ rw (w.table-is, w.fill.ensures) (fits (search rules) (length (functions_in c.args.image.now)) (λ _. refl)).built
      | else-m-eq0 w ↦ rw (w.table-is, w.clear.ensures) (ends (search rules))
    ]
