-- `compiler::stages::generated` meets its contract: the state of generation as an answer.
use native.Mathlib.Omega.{arith}
use Rattle.rules.specs.Check.{check_of}
use Rattle.emit.specs.State.{rules_of}
use Rattle.bounds.proofs.Refused.{generate_plain}
use Rattle.compiler.specs.Made.{generated_mirrors}
use Rattle.compiler.proofs.Making.{sound_of, made_fine, made_unfit}
use Rattle.compiler.proofs.stages.generated.Goals as goal

pub generate-st-requires : goal.generate-st-requires
generate-st-requires c = let s = sound_of (check_of c.args.image.now) c.requires.0.1 in
    (record { known = c.requires.0.0; count = s.end; names = s.names; sound = s.is }, (c.requires.1, omega arith))

pub returns-then-st-eq0 : goal.returns-then-st-eq0
returns-then-st-eq0 c = made_fine c.requires.0.0.0 (generated_mirrors (rules_of c.args.rules) c.args.image.now) c.generate-st.ensures c.if-st-eq0.true c.of.ensures

pub returns-else-st-eq0 : goal.returns-else-st-eq0
returns-else-st-eq0 c = made_unfit c.requires.0.0.0 (let s = sound_of (check_of c.args.image.now) c.requires.0.1 in generate_plain (rules_of c.args.rules) c.args.image.now s.end s.names s.is) c.generate-st.ensures c.if-st-eq0.false c.of-else-st-eq0.ensures (c.generate-st.auto.code, c.generate-st.auto.bytes)
