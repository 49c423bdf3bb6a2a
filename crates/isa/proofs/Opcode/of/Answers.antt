-- `isa::Opcode::of` meets its contract: what the table says of the byte picks the case of `opcode_by`.
use Rattle.std.specs.Prelude.{None, Some}
use Rattle.std.proofs.Common.{◌≡◌, ℕ, Bool, true, false, cond, List, get_or, sym, ap, ◌∙◌}
use Rattle.isa.specs.declared.Opcode.TheVariants.{VerifyMerkle}
use Rattle.isa.specs.declared.Fact.{Fact}
use Rattle.isa.specs.Word.{opcodes}
use Rattle.isa.specs.Facts.{fact_in, opcode_by}
use Rattle.isa.proofs.Opcode.of.Goals as goal

by-known : (t : List ℕ) (n : ℕ) (b : Bool) {f : Fact} → f ≡ fact_in (get_or t n 0) → f.known ≡ b → cond b (Some (get_or opcodes n VerifyMerkle)) None ≡ opcode_by t n
unfolding opcode_by
by-known t n b e k = ap (λ (x : Bool). cond x (Some (get_or opcodes n VerifyMerkle)) None) (sym k ∙ ap (λ (f : Fact). f.known) e)

pub returns-then-fact : goal.returns-then-fact
returns-then-fact c = ap Some c.named.ensures ∙ by-known _ _ true c.fact.ensures c.if-fact.true

pub returns-else-fact : goal.returns-else-fact
returns-else-fact c = by-known _ _ false c.fact.ensures c.if-fact.false
