-- Demand 3 of what `build` leaves behind: its contract and the law of heights together.
-- Assumes nothing.
use Rattle.std.specs.Prelude.{◌≡◌, List, ℕ, ◌≤◌, length, take}
use Rattle.std.proofs.Common.{sym, ap, ◌∙◌}
use Rattle.rules.specs.declared.Answer.{Answer}
use Rattle.rules.specs.Read.{contract_at}
use Rattle.rules.specs.Emit.{Rules}
use Rattle.rules.specs.Machine.{Demand3}
use Rattle.heights.specs.Slices.{entries_in, words_in, table_in}
use Rattle.heights.proofs.Demand3.{demand_3_lent}
use Rattle.compiler.specs.Ends.{Built}

-- If it answers 0, the first `count` numbers of the code slice with the entries that stand in the table obey the law: on any path through any
-- function each word has one height, nothing is taken that is not there, the path stays in the function and stops only at a Ret, at two.
pub walks : (R : Rules) → R.free ≤ 30 → (img code table : List ℕ) (a : Answer) (c t : List ℕ) → Built R img code table a c t → a.refusal ≡ 0
    → Demand3 (take a.count c) (entries_in (length (contract_at img).functions) a.count t)
unfolding words_in table_in
walks R few img code table a c t b z = rw (b.answer, b.words, b.entries) (demand_3_lent R few img code table (sym (ap (λ (x : Answer). x.refusal) b.answer) ∙ z))
