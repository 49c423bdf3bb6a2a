-- gen_part meets its contract.
use mathlib.Core.Path.{refl}
use Rattle.codegen.proofs.Part.{in_part}
use Rattle.emit.specs.Ran.{raw}
use Rattle.codegen.proofs.gen_part.Goals as goal

pub gen_function-r-requires : goal.gen_function-r-requires
gen_function-r-requires c = c.requires

pub returns : goal.returns
returns c = in_part (raw _) _ c.min-first.ensures c.first_byte-start.ensures c.sum.ensures refl refl c.gen_function-r.ensures
