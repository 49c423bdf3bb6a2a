-- `texts::generated_text` meets its contract: what generation refuses is told by its number and its place.
use Rattle.texts.specs.Laws.{generated_fine, generated_told, told_room, tells_told}
use Rattle.texts.proofs.generated_text.Goals as goal

pub generated-a-requires : goal.generated-a-requires
generated-a-requires c = (c.requires.1, c.target.ensures.1)

pub returns-then-a-eq0 : goal.returns-then-a-eq0
returns-then-a-eq0 c = generated_fine (rw c.target.ensures.0 at c.generated-a.ensures) c.if-a-eq0.true c.told.ensures

pub generation-requires : goal.generation-requires
generation-requires c = told_room (generated_told c.requires.1.1 (rw c.target.ensures.0 at c.generated-a.ensures) c.if-a-eq0.false) c.requires.0

pub returns : goal.returns
returns c = tells_told (generated_told c.requires.1.1 (rw c.target.ensures.0 at c.generated-a.ensures) c.if-a-eq0.false) c.told-2.ensures c.generation.ensures
