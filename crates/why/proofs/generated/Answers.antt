-- `why::generated` meets its contract.
use mathlib.Core.Path.{refl}
use native.Mathlib.Omega.{arith}
use Rattle.rules.specs.Check.{check_of}
use Rattle.rules.specs.Why.{because}
use Rattle.compiler.proofs.Making.{sound_of}
use Rattle.why.specs.Answers.{why_refused, why_past, why_word, some_function, few_words}
use Rattle.why.proofs.generated.Goals as goal

pub generated-a-requires : goal.generated-a-requires
generated-a-requires c = (c.requires, c.target-target.ensures.1)

pub returns-then-a-ne0 : goal.returns-then-a-ne0
returns-then-a-ne0 c = why_refused (rw c.target-target.ensures.0 at c.generated-a.ensures) c.args.index c.if-a-ne0.true c.refused.ensures

pub returns-then-a-index : goal.returns-then-a-index
unfolding because
returns-then-a-index c = why_past (rw c.target-target.ensures.0 at c.generated-a.ensures) c.args.index c.if-a-ne0.false c.if-a-index.true refl

pub in_program-s-requires : goal.in_program-s-requires
in_program-s-requires c = let s = sound_of (check_of c.args.image.now) c.requires.1 in record { checked = record { known = c.requires.0; count = s.end; names = s.names; sound = s.is }; some = some_function (rw c.target-target.ensures.0 at c.generated-a.ensures) c.if-a-ne0.false; size = omega arith }

pub returns : goal.returns
returns c = why_word (rw c.target-target.ensures.0 at c.generated-a.ensures) c.args.index c.target-target.result c.target-target.ensures.0 c.if-a-ne0.false c.if-a-index.false (omega (arith, few_words (rw c.target-target.ensures.0 at c.generated-a.ensures) c.requires.1 c.if-a-ne0.false)) c.in_program-s.ensures c.because.ensures
