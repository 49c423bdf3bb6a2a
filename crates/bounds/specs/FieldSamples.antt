-- Each field that the table of low bytes lets our generator set (02: P7) is set in some word of some program: all of them in one, by computation.
-- Assumes nothing.
use Rattle.std.specs.Prelude.{◌≡◌, refl, Bool, true, false, cond, List, [], ◌∷◌, map, ℕ, suc, ◌%◌, ◌^◌, ◌<◌, T, eqb, get_or}
use Rattle.std.proofs.Common.{sym, subst, arith, eqb-true}
use Rattle.std.proofs.lemmas.Bool.{eqb-false}
use Rattle.isa.specs.declared.Opcode.{Opcode}
use Rattle.isa.specs.Word.{number_of, opcodes}
use Rattle.isa.specs.Facts.{row_of}
use Rattle.isa.specs.Every.{every, every_at}
use Rattle.isa.specs.Laws.{each_opcode}
use Rattle.rules.specs.Bytes.{Name}
use Rattle.rules.specs.Refusal.{Res, ok, bad}
use Rattle.rules.specs.Machine.{At}
use Rattle.rules.specs.Emit.{count}
use Rattle.rules.specs.Link.{Program}
use Rattle.rules.specs.Build.{rules, program, words_of}
use Rattle.rules.specs.Compute.{computed}
use Rattle.rules.specs.Texts.{bytes}
use Rattle.rules.specs.Writer.{le, join, rec, name, list, contract, field, struct, function, let_in, constrain, if_then, just, int, ident, field_access, call}
use Rattle.bounds.specs.Fields.{Operand, rd, rs1, rs2, imm, bits_in, may}

-- 01: the names that the sample uses
abbrev x : Name
x = bytes "x"

abbrev y : Name
y = bytes "y"

abbrev A : Name
A = bytes "A"

abbrev f : Name
f = bytes "f"

abbrev u64 : Name
u64 = bytes "u64"

-- 01: kind 70, with each operator
binaries : List (List ℕ)
binaries = map (λ (k : ℕ). just (rec 70 (ident x ∷ rec 4 ((k ∷ []) ∷ []) ∷ ident x ∷ []))) (count 0 10)

-- 01: one function that does everything that sets a field (36 writes a mapping, 67 reads one, 41 is an Emit, 69 a literal of two Inits), and one
-- that it calls
pub sample : List ℕ
sample =
    contract (field x u64 ∷ []) (struct A (field x u64 ∷ field y u64 ∷ []) ∷ [])
    (function f (field x u64 ∷ []) [] ∷ function (bytes "main") []
    (let_in x (int 1)
    ∷ let_in y (rec 69 (name A ∷ list (rec 20 (name x ∷ ident x ∷ []) ∷ rec 20 (name y ∷ ident x ∷ []) ∷ []) ∷ []))
    ∷ just (field_access (ident y) y)
    ∷ constrain (ident x)
    ∷ rec 36 (name x ∷ ident x ∷ ident x ∷ [])
    ∷ just (rec 67 (name x ∷ ident x ∷ []))
    ∷ if_then (ident x) []
    ∷ rec 41 (name x ∷ list (ident x ∷ []) ∷ [])
    ∷ just (call f (ident x ∷ []))
    ∷ just (call (bytes "poseidon") (ident x ∷ ident x ∷ []))
    ∷ just (call (bytes "msg::sender") [])
    ∷ just (call (bytes "verify_merkle_proof") (ident x ∷ ident x ∷ ident x ∷ []))
    ∷ binaries) ∷ [])

-- The numbers of its words.
words_in : Res Program → List ℕ
words_in (ok P) = words_of P
words_in (bad r) = []

-- A word of the opcode with that field set.
sets : Operand → Opcode → ℕ → Bool
sets k o n = cond (eqb (n % 2 ^ 8) (number_of o)) (cond (eqb (bits_in k n) 0) false true) false

-- One among several.
any : (ℕ → Bool) → List ℕ → Bool
any t [] = false
any t (n ∷ l) = cond (t n) true (any t l)

any_at : (t : ℕ → Bool) (l : List ℕ) → T (any t l) → (i : ℕ) × (n : ℕ) × At l i n × T (t n)
unfolding any
any_at t [] h = absurd h
any_at t (n ∷ l) h = by (t n) refl h (any_at t l)
  where
    by : (b : Bool) → t n ≡ b → T (cond b true (any t l)) → (T (any t l) → (i : ℕ) × (m : ℕ) × At l i m × T (t m)) → (i : ℕ) × (m : ℕ) × At (n ∷ l) i m × T (t m)
    by true e g next = (0, n, refl, subst T (sym e) tt)
    by false e g next = let (i, m, a, s) = next g in (suc i, m, a, s)

-- If the field may be set, there is one.
shown : List ℕ → Operand → Opcode → Bool
shown ws k o = cond (may k (row_of o)) (any (sets k o) ws) true

-- Of each opcode and each field.
all_shown : List ℕ → Bool
all_shown ws = every (λ (i : ℕ) (o : Opcode). every (λ (j : ℕ) (k : Operand). shown ws k o) 0 (rd ∷ rs1 ∷ rs2 ∷ imm ∷ [])) 0 opcodes

shown_at : (ws : List ℕ) → T (all_shown ws) → (k : Operand) (o : Opcode) → T (shown ws k o)
unfolding all_shown
shown_at ws h k o = by k
  where
    of : (j : ℕ) → j < 4 → T (shown ws (get_or (rd ∷ rs1 ∷ rs2 ∷ imm ∷ []) j rd) o)
    of = every_at (λ (j : ℕ) (k : Operand). shown ws k o) (rd ∷ rs1 ∷ rs2 ∷ imm ∷ []) (each_opcode (λ (p : Opcode). every (λ (j : ℕ) (k : Operand). shown ws k p) 0 (rd ∷ rs1 ∷ rs2 ∷ imm ∷ [])) h o) rd

    by : (k : Operand) → T (shown ws k o)
    by rd = of 0 (omega arith)
    by rs1 = of 1 (omega arith)
    by rs2 = of 2 (omega arith)
    by imm = of 3 (omega arith)

in_sample : T (all_shown (words_in (program rules sample)))
unfolding computed le join rec bytes binaries sample words_in sets any shown all_shown
in_sample = tt

set_by : (k : Operand) (o : Opcode) (n : ℕ) → T (sets k o n) → (n % 2 ^ 8 ≡ number_of o) × (bits_in k n ≡ 0 → ⊥)
unfolding sets
set_by k o n = by (eqb (n % 2 ^ 8) (number_of o)) refl (eqb (bits_in k n) 0) refl
  where
    by : (a : Bool) → eqb (n % 2 ^ 8) (number_of o) ≡ a → (b : Bool) → eqb (bits_in k n) 0 ≡ b → T (cond a (cond b false true) false) → (n % 2 ^ 8 ≡ number_of o) × (bits_in k n ≡ 0 → ⊥)
    by true p false q h = (eqb-true _ _ p, eqb-false _ _ q)
    by true p true q h = absurd h
    by false p b q h = absurd h

-- 02: P7: in the sample, each field that may be set is, of each opcode.
pub each_set : (k : Operand) (o : Opcode) → may k (row_of o) ≡ true
    → (P : Program) × (program rules sample ≡ ok P) × (i : ℕ) × (n : ℕ) × At (words_of P) i n × (n % 2 ^ 8 ≡ number_of o) × (bits_in k n ≡ 0 → ⊥)
unfolding shown words_in any
each_set k o e = by (program rules sample) refl (subst (λ (b : Bool). T (cond b (any (sets k o) (words_in (program rules sample))) true)) e (shown_at (words_in (program rules sample)) in_sample k o))
  where
    by : (r : Res Program) → program rules sample ≡ r → T (any (sets k o) (words_in r))
        → (P : Program) × (program rules sample ≡ ok P) × (i : ℕ) × (n : ℕ) × At (words_of P) i n × (n % 2 ^ 8 ≡ number_of o) × (bits_in k n ≡ 0 → ⊥)
    by (bad r) q h = absurd h
    by (ok P) q h = let (i, n, a, s) = any_at (sets k o) (words_of P) h in (P, q, i, n, a, (set_by k o n s).0, (set_by k o n s).1)
