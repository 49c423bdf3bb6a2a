-- The answer of `why` is small enough for a number of 64 bits (02: P5), of any image and any index: an instance of `marked_good`.
-- Assumes nothing.
use Rattle.std.specs.Prelude.{◌≡◌, refl, true, false, length, None, Option, Some}
use mathlib.Core.List.{List, [], ◌∷◌, ◌++◌}
use Prim.Native.Nat.{ℕ, zero, suc, ◌+◌, ◌≤◌, ◌<◌}
use Rattle.std.proofs.Common.{arith}
use Rattle.rules.specs.declared.Why.{Why}
use Rattle.rules.specs.Seen.{Sound}
use Rattle.rules.specs.Check.{check_of}
use Rattle.rules.specs.Tables.{last, mapped, nth}
use Rattle.rules.specs.Tree.{Function, Contract}
use Rattle.rules.specs.Read.{contract_at}
use Rattle.rules.specs.Refusal.{Refusal, Res, ok, bad, ◌>>=◌}
use Rattle.rules.specs.Machine.{Imm, Entry}
use Rattle.rules.specs.Emit.{Open, word, calls}
use Rattle.rules.specs.Link.{Built, Program, opening, with_main, generate}
use Rattle.rules.specs.Build.{rules, judged}
use Rattle.rules.specs.Why.{mark_of, landing, target_of, marked, marked_of, because, word_why, why_in, why_of}
use Rattle.bounds.specs.Answers.{All, from_ok}
use Rattle.bounds.specs.Held.{Opt, Each, each_last}
use Rattle.bounds.specs.Numbers.{In32}
use Rattle.bounds.specs.Ranges.{WordOf, Ranged}
use Rattle.bounds.proofs.ContractOf.{uncut}
use Rattle.bounds.specs.Said.{Said, said_ok, said_bad, Any, said_of}
use Rattle.bounds.specs.SaidProgram.{Of}
use Rattle.bounds.specs.Refused.{Plain}
use Rattle.bounds.proofs.Refused.{judged_plain, generate_plain}
use Rattle.bounds.specs.Programs.{Short}
use Rattle.bounds.proofs.Programs.{built}
use Rattle.why.specs.Lands.{Good, marked_good}

-- A number below 256, a place of at most 65,536, and a target below 2^32 - 1, so that it can be counted from 1.
pub record Few (w : Why) : Type 0 where
  pub refusal : w.refusal < 256
  pub place : w.place ≤ 65536
  pub target : w.target < 4294967295

-- No function of an image starts past this (Programs: Short).
abbrev Firsts : List Entry → Type 0
Firsts T = Each (λ (e : Entry). e.first ≤ 709933) T

-- A target, if there is one.
abbrev Low : Option ℕ → Type 0
Low o = Opt (λ t. t < 4294967295) o

-- Where a patched word leads.
landing_low : (i : ℕ) (d : Imm) → i < 709933 → In32 d → landing i d < 4294967295
unfolding landing
landing_low i (Imm.pos d) h g = omega arith
landing_low i (Imm.neg d) h g = omega arith

first_low : (o : Option Entry) → Opt (λ (e : Entry). e.first ≤ 709933) o → Low (mapped (λ (e : Entry). e.first) o)
unfolding mapped
first_low None h = tt
first_low (Some e) h = omega arith

target_low : (T : List Entry) (i : ℕ) (o : Open) → Firsts T → i < 709933 → WordOf o → Low (target_of T i o)
unfolding target_of
target_low T i (word p true w) f h g = landing_low i w.imm h g.0.imm
target_low T i (word p false w) f h g = tt
target_low T i (calls p x) f h g = first_low _ (each_last _ _ x T f)

-- An answer.
few : (r p : ℕ) (o : Option ℕ) → r < 256 → p ≤ 65536 → Low o → Few (because r p o)
unfolding because
few r p None h g f = record { refusal = h; place = g; target = omega arith }
few r p (Some t) h g f = record { refusal = h; place = g; target = f }

module _ (img : List ℕ) (i : ℕ) where
  -- Of the word at index i, the kth of those that are left.
  word_few : (T : List Entry) (k : ℕ) (l : List Open) → length img ≤ 65536 → Firsts T → i + length l ≤ 709933 + k → Each (Good img) l → Ranged l → Few (word_why T i (nth k l))
  unfolding word_why nth
  word_few T k [] b f n h g = few 53 0 None (omega arith) (omega arith) tt
  word_few T zero (o ∷ l) b f n h g = few 0 (mark_of o) _ (omega arith) (omega (arith, h.0.0)) (target_low T i o f (omega arith) g.0)
  word_few T (suc k) (o ∷ l) b f n h g = word_few T k l b f (omega arith) h.1 g.1

  -- Of a refusal.
  refused_few : (q : Refusal) → Plain q → Few (why_in i (bad q))
  unfolding why_in
  refused_few q h = few _ _ None h.few h.near tt

  -- Generation refuses alike, whether its words are marked or linked.
  marked_few : (q m : ℕ) → check_of img ≡ Sound q m → Few (why_in i (marked rules (contract_at img)))
  unfolding why_in marked generate with_main opening rules ◌>>=◌
  marked_few q m e = go (last _ _ _) _ _ (generate_plain rules img q m e) (built rules (omega arith) img q m e 3) (marked_good rules img q m e)
    where
      opened : Built → Res Built
      opened b = ok (record { code = opening rules ++ b.code; table = b.table })

      go : (o : Option Function) (n : Res Built) (f : Built → Program) → Said Plain (Any Program) (with_main o (n >>= λ b. ok (f b))) → All (λ (b : Built). Short 3 b) n
          → All (λ (b : Built). Each (Good img) b.code) (with_main o (n >>= opened)) → Few (why_in i (with_main o (n >>= opened)))
      go None n f s h g = refused_few _ (said_of s refl)
      go (Some x) (bad r) f s h g = refused_few r (said_of s refl)
      go (Some x) (ok b) f s h g =
          let k = from_ok h in
          word_few b.table i _ (uncut img q m e).bytes k.firsts (omega (arith, k.few)) (from_ok g) (omega arith, (tt, (omega arith, k.ranged)))

  judged_few : (m : Res Contract) → Said Plain (λ (C : Contract). Of img C) m → Few (why_in i (m >>= λ C. marked rules C))
  unfolding ◌>>=◌
  judged_few m (said_ok C c) = rw c.is (marked_few c.end c.names c.sound)
  judged_few m (said_bad q h) = refused_few q h

pub why_small : (img : List ℕ) (index : ℕ) → Few (why_of img index)
unfolding why_of marked_of
why_small img i = judged_few img i (judged img) (judged_plain img)
