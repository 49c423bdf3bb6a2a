-- All of both slices after a build, said of whatever meets `Built` (01: What comes back).
--     refused_zero     a refusal other than 0: every number of both slices is zero
--     rest_lent        0: both are as lent past the words and past the entries of the contract's functions
--     no_top_bits      0: no word has top bits (02: P3)
-- Assumes nothing.
use Rattle.std.specs.Prelude.{◌≡◌, ℕ, ◌*◌, ◌≤◌}
use Rattle.std.proofs.Math.Path.{refl, sym, ap, subst}
use Rattle.std.proofs.Common.{◌∙◌, arith}
use mathlib.Core.List.{List}
use Rattle.std.proofs.Math.ListN.{length, take, length-map, replicate}
use Rattle.isa.specs.Word.{top_of}
use Rattle.rules.specs.declared.Answer.{Answer}
use Rattle.rules.specs.Read.{contract_at}
use Rattle.rules.specs.Refusal.{Res, ok, bad}
use Rattle.rules.specs.Machine.{Entry, At, number_of}
use Rattle.rules.specs.Emit.{Rules}
use Rattle.rules.specs.Link.{Program}
use Rattle.rules.specs.Lent.{over, spread}
use Rattle.rules.specs.Build.{outcome, program_answer, words_of, three_of, at_exit, build_of, code_of, table_of}
use Rattle.lent.specs.Over.{length_spread}
use Rattle.lent.specs.Rest.{Rest, rest_over, all_zero}
use Rattle.heights.proofs.Theorem.{as_many}
use Rattle.heights.specs.Accepted.{Fitting}
use Rattle.heights.proofs.Accepted.{accepted}
use Rattle.heights.specs.Slices.{words_in, Lent}
use Rattle.heights.proofs.Slices.{lent}
use Rattle.bounds.proofs.Programs.{program_no_top}
use Rattle.compiler.specs.Ends.{Built}

three : (e : Entry) → length (three_of e) ≡ 3
unfolding three_of
three e = refl

module _ (R : Rules) (img code table : List ℕ) (a : Answer) (c t : List ℕ) (b : Built R img code table a c t) where
  pub refused_zero : (a.refusal ≡ 0 → ⊥) → (c ≡ replicate (length code) 0) × (t ≡ replicate (length table) 0)
  unfolding build_of code_of table_of program_answer at_exit
  refused_zero wrong = by (outcome R img (length code) (length table)) refl
    where
      by : (o : Res Program) → outcome R img (length code) (length table) ≡ o → (c ≡ replicate (length code) 0) × (t ≡ replicate (length table) 0)
      by (ok P) e = absurd (wrong (ap (λ (x : Answer). x.refusal) b.answer ∙ rw e refl))
      by (bad q) e = (b.words ∙ rw e (all_zero code), b.entries ∙ rw e (all_zero table))

  pub rest_lent : a.refusal ≡ 0 → Rest a.count code c × Rest (3 * length (contract_at img).functions) table t
  unfolding build_of code_of table_of program_answer at_exit words_of
  rest_lent z = by (accepted R img code table (sym (ap (λ (x : Answer). x.refusal) b.answer) ∙ z))
    where
      by : (P : Program) × (outcome R img (length code) (length table) ≡ ok P) × Fitting R img (length code) (length table) P
          → Rest a.count code c × Rest (3 * length (contract_at img).functions) table t
      by (P, e, f) =
          let w : length (words_of P) ≡ length P.words = length-map P.words number_of in
          let n : length (words_of P) ≡ a.count = w ∙ sym (ap (λ (x : Answer). x.count) b.answer ∙ rw e refl) in
          let l : length P.table ≡ length (contract_at img).functions = as_many R img P f.is in
          let k : length (spread three_of P.table) ≡ 3 * length (contract_at img).functions = length_spread three_of 3 three P.table ∙ ap (λ (m : ℕ). 3 * m) l in
          let c-is : over (words_of P) code ≡ c = sym (b.words ∙ rw e refl) in
          let t-is : over (spread three_of P.table) table ≡ t = sym (b.entries ∙ rw e refl) in (
            subst (λ (m : ℕ). Rest m code c) n (subst (λ (s : List ℕ). Rest (length (words_of P)) code s) c-is (rest_over (words_of P) code (omega (arith, w, f.words)))),
            subst (λ (m : ℕ). Rest m table t) k (subst (λ (s : List ℕ). Rest (length (spread three_of P.table)) table s) t-is (rest_over (spread three_of P.table) table (omega (arith, k, l, f.table)))),
          )

  pub no_top_bits : R.free ≤ 30 → a.refusal ≡ 0 → (i n : ℕ) → At (take a.count c) i n → top_of n ≡ 0
  unfolding words_in
  no_top_bits few z i n h = by (lent R img code table (sym (ap (λ (x : Answer). x.refusal) b.answer) ∙ z))
    where
      by : Lent R img code table → top_of n ≡ 0
      by l =
          let e : take a.count c ≡ words_of l.P = rw (b.answer, b.words) l.words in
          program_no_top R few img l.P l.is i n (subst (λ (s : List ℕ). At s i n) e h)
