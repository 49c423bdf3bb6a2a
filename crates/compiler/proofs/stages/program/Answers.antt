-- `compiler::stages::program` meets its contract: what the front refuses is not generated.
use Rattle.std.proofs.Common.{refl}
use Rattle.notes.specs.Wrote.{blank}
use Rattle.compiler.proofs.Making.{refused_makes, fit_makes}
use Rattle.compiler.proofs.stages.program.Goals as goal

pub judge-requires : goal.judge-requires
judge-requires c = blank

pub returns-in-Err : goal.returns-in-Err
returns-in-Err c = refused_makes _ c.args.image.now c.in-Err.ensures (c.answer.ensures c.args.image.now)

pub generated-requires : goal.generated-requires
generated-requires c = (c.in_default.ensures.ready refl, c.requires)

pub returns : goal.returns
returns c = fit_makes _ c.args.image.now c.in_default.ensures c.generated.ensures
