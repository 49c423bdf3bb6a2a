-- All of the code slice and of the entries after a build over entry structs (01: What comes back).
--     refused_zero     a refusal other than 0: every word is zero and every entry blank
--     rest_lent        0: both are as lent past the words and past the entries of the contract's functions
-- Assumes nothing.
use Rattle.std.specs.Prelude.{◌≡◌, refl, List, [], ◌∷◌, ℕ, zero, suc, ◌*◌, length, drop, replicate}
use Rattle.std.proofs.Common.{sym, ◌∙◌, arith}
use Rattle.rules.specs.declared.Answer.{Answer}
use Rattle.rules.specs.Read.{contract_at}
use Rattle.rules.specs.Lent.{spread}
use Rattle.rules.specs.Emit.{Rules}
use Rattle.lent.specs.Rest.{Rest, all_zero}
use Rattle.compiler.specs.Ends.{Built}
use Rattle.compiler.specs.Whole as flat
use Rattle.entries.specs.declared.Entry.{Entry}
use Rattle.entries.specs.Entries.{blank, numbers_of, numbers_one, numbers_length, numbers_blank}

-- without its first k entries a table is without its first 3 k numbers
numbers_drop : (k : ℕ) (es : List Entry) → numbers_of (drop k es) ≡ drop (3 * k) (numbers_of es)
unfolding spread
numbers_drop zero es = refl
numbers_drop (suc k) [] = let q : 3 * suc k ≡ suc (suc (suc (3 * k))) = omega arith in rw q refl
numbers_drop (suc k) (e ∷ es) = let q : 3 * suc k ≡ suc (suc (suc (3 * k))) = omega arith in rw q (numbers_drop k es)

-- as many numbers, as many entries
numbers_long : (es fs : List Entry) → length (numbers_of es) ≡ length (numbers_of fs) → length es ≡ length fs
numbers_long es fs e = omega (arith, e, numbers_length es, numbers_length fs)

rest_entries : (k : ℕ) (es fs : List Entry) → Rest (3 * k) (numbers_of es) (numbers_of fs) → Rest k es fs
rest_entries k es fs r = record {
  room = omega (arith, r.room, numbers_length es);
  long = numbers_long fs es r.long;
  past = numbers_one (drop k fs) (drop k es) (numbers_drop k fs ∙ r.past ∙ sym (numbers_drop k es));
}

module _ (R : Rules) (img code : List ℕ) (es : List Entry) (a : Answer) (c : List ℕ) (t : List Entry) (b : Built R img code (numbers_of es) a c (numbers_of t)) where
  pub refused_zero : (a.refusal ≡ 0 → ⊥) → (c ≡ replicate (length code) 0) × (t ≡ replicate (length es) blank)
  refused_zero wrong =
      let (w, n) = flat.refused_zero R img code (numbers_of es) a c (numbers_of t) b wrong in
      (w, numbers_one t (replicate (length es) blank) (n ∙ sym (all_zero (numbers_of es)) ∙ sym (numbers_blank es)))

  pub rest_lent : a.refusal ≡ 0 → Rest a.count code c × Rest (length (contract_at img).functions) es t
  rest_lent z =
      let (w, n) = flat.rest_lent R img code (numbers_of es) a c (numbers_of t) b z in
      (w, rest_entries (length (contract_at img).functions) es t n)
