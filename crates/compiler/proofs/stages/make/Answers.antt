-- `compiler::stages::make` meets its contract: words are looked at before entries.
use mathlib.Core.Path.{sym, ◌∙◌}
use Rattle.lent.specs.Rest.{all_zero}
use Rattle.compiler.proofs.Leaving.{no_program_leaves, no_room_leaves, no_table_leaves, fits_leaves}
use Rattle.compiler.proofs.Making.{make_fine}
use Rattle.compiler.proofs.stages.make.Goals as goal

pub returns-then-a-ne0 : goal.returns-then-a-ne0
returns-then-a-ne0 c t e = no_program_leaves _ t c.program-a.ensures c.if-a-ne0.true (c.fill.ensures.after (λ y e. e) ∙ sym (all_zero _))

pub returns-then-code-count : goal.returns-then-code-count
returns-then-code-count c t e = no_room_leaves _ t c.program-a.ensures c.if-a-ne0.false c.refuse.ensures c.if-code-count.true

pub returns-then-room-functions : goal.returns-then-room-functions
returns-then-room-functions c t e = no_table_leaves _ t c.program-a.ensures c.if-a-ne0.false c.refuse-then-room-functions.ensures c.if-code-count.false e (λ _. c.function_count-functions.ensures) c.if-room-functions.true

pub returns : goal.returns
returns c t e = fits_leaves _ t c.program-a.ensures c.if-a-ne0.false c.if-code-count.false e (λ _. c.function_count-functions.ensures) c.if-room-functions.false

pub invariant_of-contract : goal.invariant_of-contract
invariant_of-contract c = record { tabled = (make_fine c.program-a.ensures c.if-a-ne0.false).holds.tabled }
