-- The one number, and all of the bytes after a host's build (01: A host's entry).
--     unpacked         refusal, place and count can be told from it
--     refused_zero     a refusal other than 0: every byte is zero
--     rest_lent        0: the bytes are as lent past the words
-- Assumes nothing.
use Rattle.std.specs.Prelude.{◌≡◌, Bool, ℕ, ◌*◌, ◌/◌, ◌%◌, ◌^◌}
use Rattle.std.proofs.Math.Path.{refl, sym, subst}
use Rattle.std.proofs.Common.{◌∙◌, arith}
use Rattle.std.proofs.Math.Bool.{true, false}
use mathlib.Core.List.{List}
use borrow.Author.Tests.{ltb-false}
use Rattle.std.proofs.Math.Dec.{ltb}
use Rattle.std.proofs.Math.ListN.{length, length-map, replicate}
use Rattle.rules.specs.declared.Answer.{Answer}
use Rattle.rules.specs.Refusal.{Res, ok, bad, ◌>>=◌, unless, refused, number_of}
use Rattle.rules.specs.Machine as machine
use Rattle.rules.specs.Link.{Program}
use Rattle.rules.specs.Lent.{over}
use Rattle.rules.specs.Build.{rules, program, fits, program_answer, words_of, at_exit, hosted, packed, host_of, host_bytes}
use Rattle.lent.specs.Words.{bytes_of, length_bytes}
use Rattle.lent.specs.Rest.{Rest, rest_over, all_zero}
use Rattle.host.specs.Ends.{Small, small, refusal_plain}

pub unpacked : (a : Answer) → Small a → (packed a % 256 ≡ a.refusal) × (packed a / 256 % 2 ^ 24 ≡ a.place) × (packed a / 2 ^ 32 ≡ a.count)
unfolding packed
unpacked a h = (omega (arith, h.refusal, h.place, h.count), omega (arith, h.refusal, h.place, h.count), omega (arith, h.refusal, h.place, h.count))

module _ (img s : List ℕ) (r : ℕ) (s' : List ℕ) (number : r ≡ host_of rules img s) (bytes : s' ≡ host_bytes rules img s) where
  -- The answer that it was packed from.
  a : Answer
  a = program_answer (hosted rules img (length s))

  told : (r % 256 ≡ a.refusal) × (r / 2 ^ 32 ≡ a.count)
  unfolding host_of a rules
  told = let h = unpacked a (small rules (omega arith) img (length s)) in rw number (h.0, h.2)

  pub refused_zero : (r % 256 ≡ 0 → ⊥) → s' ≡ replicate (length s) 0
  unfolding host_bytes program_answer at_exit a
  refused_zero wrong = by (hosted rules img (length s)) refl
    where
      by : (o : Res Program) → hosted rules img (length s) ≡ o → s' ≡ replicate (length s) 0
      by (ok P) e = absurd (wrong (told.0 ∙ rw e refl))
      by (bad q) e = bytes ∙ rw e (all_zero s)

  pub rest_lent : r % 256 ≡ 0 → Rest (8 * (r / 2 ^ 32)) s s'
  unfolding hosted host_bytes program_answer at_exit fits unless refused number_of ◌>>=◌ words_of a
  rest_lent z = by (program rules img) refl
    where
      room : (P : Program) → program rules img ≡ ok P → (b : Bool) → ltb (length s / 8) (length P.words) ≡ b → Rest (8 * (r / 2 ^ 32)) s s'
      room P e true f = absurd (let n : a.refusal ≡ 50 = rw (e, f) refl in omega (arith, told.0, n, z))
      room P e false f =
          let n : a.count ≡ length P.words = rw (e, f) refl in
          let w : length (words_of P) ≡ length P.words = length-map P.words machine.number_of in
          let k : length (bytes_of (words_of P)) ≡ 8 * (r / 2 ^ 32) = omega (arith, length_bytes (words_of P), w, n, told.1) in
          let is : over (bytes_of (words_of P)) s ≡ s' = sym (bytes ∙ rw (e, f) refl) in
          subst (λ (m : ℕ). Rest m s s') k (subst (λ (x : List ℕ). Rest (length (bytes_of (words_of P))) s x) is (rest_over (bytes_of (words_of P)) s (omega (arith, length_bytes (words_of P), w, ltb-false (length s / 8) (length P.words) f))))

      by : (m : Res Program) → program rules img ≡ m → Rest (8 * (r / 2 ^ 32)) s s'
      by (ok P) e = room P e (ltb (length s / 8) (length P.words)) refl
      by (bad q) e = absurd (let n : a.refusal ≡ number_of q = rw e refl in omega (arith, told.0, (refusal_plain rules img q e).some, n, z))
