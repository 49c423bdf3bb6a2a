-- What is known of every program that an image comes to: it is short, and each word of it has a number, without top bits, and with nothing in
-- the fields that our generator does not set.
-- Assumes nothing.
use Rattle.std.specs.Prelude.{◌≡◌, false, List, ℕ, ◌%◌, ◌^◌, ◌≤◌, get_or}
use Rattle.std.proofs.Common.{sym, subst, arith}
use Rattle.isa.specs.Word.{top_of}
use Rattle.isa.specs.Facts.{fact_in, Ruled}
use Rattle.rules.specs.Seen.{Sound}
use Rattle.rules.specs.Bytes.{Name}
use Rattle.rules.specs.Tree.{Contract}
use Rattle.rules.specs.Read.{contract_at}
use Rattle.rules.specs.Refusal.{ok}
use Rattle.rules.specs.Check.{check_of}
use Rattle.rules.specs.Machine.{At}
use Rattle.rules.specs.Layout.{offset}
use Rattle.rules.specs.Emit.{Rules}
use Rattle.rules.specs.Link.{Built, Program, functions, generate}
use Rattle.rules.specs.Build.{judged, program, words_of}
use Rattle.bounds.specs.Answers.{All, from_ok, all_bind, all_map}
use Rattle.bounds.specs.Numbers.{all_no_top, all_read_back}
use Rattle.bounds.specs.Fields.{Operand, bits_in, may}
use Rattle.bounds.proofs.Fields.{all_unset}
use Rattle.bounds.proofs.Ranges.{firsts_up, functions_fine, program_fine}
use Rattle.bounds.specs.Cuts.{cut, offset_small}
use Rattle.bounds.proofs.ContractOf.{nodes_few}
use Rattle.bounds.specs.Said.{said_all}
use Rattle.bounds.proofs.Refused.{judged_plain}
use Rattle.bounds.specs.Programs.{Bounded, Short}

-- 000: FieldAccess: an offset is small.
offset_below : (img : List ℕ) (p : ℕ) (x : Name) → offset (contract_at img) p x ≤ 512
offset_below img p x = omega (arith, offset_small (contract_at img) (cut img).fields p x)

-- As a caller meets it: their first word has index i.
pub built : (R : Rules) → R.free ≤ 30 → (img : List ℕ) (q m : ℕ) → check_of img ≡ Sound q m → (i : ℕ)
    → All (λ (b : Built). Short i b) (functions R (contract_at img) i (contract_at img).functions)
built R h img q m e i =
    let z = nodes_few img q m e in
    all_map (functions_fine R (contract_at img) h (cut img).storage (offset_below img) i (contract_at img).functions (omega (arith, z)))
    (λ b g. record { few = omega (arith, z, g.0); ranged = g.1; firsts = firsts_up _ _ (omega (arith, z)) b.table g.2 })

-- The program that the tree of a checked image comes to, whatever the rules.
pub generated : (R : Rules) → R.free ≤ 30 → (img : List ℕ) (q m : ℕ) → check_of img ≡ Sound q m → All (λ (P : Program). Bounded P) (generate R (contract_at img))
unfolding words_of
generated R h img q m e =
    let z = nodes_few img q m e in
    all_map (program_fine R (contract_at img) h (cut img).storage (offset_below img) (omega (arith, z)))
    (λ P g. record { short = omega (arith, z, g.long); encodable = λ i w a. (g.emitted i w a).0; within = λ i w a. (g.emitted i w a).1; read_back = all_read_back P.words (λ i w a. (g.emitted i w a).0) })

-- Every program that an image comes to, for a target of 30 free registers at most.
pub program_bounded : (R : Rules) → R.free ≤ 30 → (img : List ℕ) (P : Program) → program R img ≡ ok P → Bounded P
unfolding program
program_bounded R h img P e = from_ok (subst (All (λ (P : Program). Bounded P)) e
    (all_bind (judged img) _ (said_all (judged_plain img)) (λ C c.
    subst (λ (D : Contract). All (λ (P : Program). Bounded P) (generate R D)) (sym c.is) (generated R h img c.end c.names c.sound))))

-- 02: P3: no word of it has top bits.
pub program_no_top : (R : Rules) → R.free ≤ 30 → (img : List ℕ) (P : Program) → program R img ≡ ok P → (i n : ℕ) → At (words_of P) i n → top_of n ≡ 0
unfolding words_of
program_no_top R h img P e = all_no_top P.words (program_bounded R h img P e).encodable

-- 02: P7: each word of it has zero in each field that a ruled table says is not set.
pub program_unset : (R : Rules) → R.free ≤ 30 → (img : List ℕ) (P : Program) → program R img ≡ ok P → (t : List ℕ) → Ruled t → (i n : ℕ) → At (words_of P) i n → (k : Operand) → may k (fact_in (get_or t (n % 2 ^ 8) 0)) ≡ false → bits_in k n ≡ 0
unfolding words_of
program_unset R h img P e t ruled = let b = program_bounded R h img P e in all_unset t ruled P.words (λ i w a. (b.encodable i w a, b.within i w a))
