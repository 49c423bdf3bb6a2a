-- What is said of the texts (rules Texts) of an image's refusals: each has 256 bytes at most; and what generation refuses is told by its
-- number and its place, for its name is the one that the record there starts with.
-- Assumes nothing.
use Rattle.std.specs.Prelude.{◌≡◌, refl, List, [], ◌∷◌, ◌++◌, ℕ, zero, suc, ◌+◌, ◌/◌, ◌%◌, ◌≤◌, length}
use Rattle.std.proofs.Common.{ap, arith, length-append}
use Rattle.rules.specs.Seen.{Sound}
use Rattle.rules.specs.Bytes.{pick}
use Rattle.rules.specs.Check.{check_of}
use Rattle.rules.specs.Types.{Typ}
use Rattle.rules.specs.Read.{contract_at}
use Rattle.rules.specs.Refusal.{Refusal, refused, number_of, place_of}
use Rattle.rules.specs.Emit.{Rules}
use Rattle.rules.specs.Link.{Program, generate}
use Rattle.rules.specs.Build.{program}
use Rattle.rules.specs.Texts.{bytes, higher, digits, decimal, type_text, text_of}
use Rattle.bounds.specs.Said.{Said, Any, ShortType, AllowsGeneration, Allows}
use Rattle.bounds.proofs.SaidProgram.{generate_said, program_said}
use Rattle.bounds.specs.Texts.{Fits, Own, generated_as}

-- A number has at most the digits that it is given.
higher_few : (k : ℕ) (f : ℕ → List ℕ) → ((n : ℕ) → length (f n) ≤ k) → (q : ℕ) → length (higher f q) ≤ k
unfolding higher
higher_few k f h zero = omega arith
higher_few k f h (suc q) = h (suc q)

digits_few : (k n : ℕ) → length (digits k n) ≤ k
unfolding digits
digits_few zero n = omega arith
digits_few (suc k) n = omega (arith, higher_few k (digits k) (digits_few k) (n / 10), length-append (higher (digits k) (n / 10)) ((48 + n % 10) ∷ []))

pub decimal_few : (n : ℕ) → length (decimal n) ≤ 20
unfolding decimal
decimal_few n = digits_few 20 n

-- A type's text: at most that of a struct with a name of 64 bytes.
type_few : (t : Typ) → ShortType t → length (type_text t) ≤ 74
unfolding type_text bytes
type_few Typ.u64 h = omega arith
type_few Typ.bool h = omega arith
type_few Typ.field h = omega arith
type_few Typ.void h = omega arith
type_few Typ.unknown h = omega arith
type_few (Typ.struct x) h = omega (arith, h, length-append x (bytes "\")"))

fits : (img : List ℕ) → Allows img Fits
unfolding text_of bytes
fits img = record {
  front = record {
    undefined_name = λ p x h. omega (arith, h.short);
    undefined_target = λ p x h. omega (arith, h.short);
    assign_type = λ p a b h f g. omega (arith, type_few a f, type_few b g, length-append (type_text a) (bytes ", got " ++ type_text b));
    return_type = λ p a b h f g. omega (arith, type_few a f, type_few b g, length-append (type_text a) (bytes ", got " ++ type_text b));
    no_field = λ p s x h f g. omega (arith, f, g, length-append s (bytes " has no field " ++ x));
    not_struct = λ p h. omega arith;
    init_type = λ p x h. omega (arith, h.short, length-append x (bytes " type mismatch"));
    init_field = λ p x h. omega (arith, h.short);
    no_struct = λ p x h. omega (arith, h.short);
    arg_count = λ p f a b h. omega (arith, h.short, decimal_few a, decimal_few b, length-append f (bytes " expects " ++ (decimal a ++ (bytes " args, got " ++ decimal b))), length-append (decimal a) (bytes " args, got " ++ decimal b));
    arg_type = λ p i f h g. omega (arith, g, decimal_few i, length-append (decimal i) (bytes " type mismatch in " ++ f));
    no_function = λ p f h. omega (arith, h.short);
    operands = λ p h. omega arith;
    ambiguous = λ p h. omega arith;
  };
  generation = record {
    no_main = omega arith;
    exhausted = λ p h. omega arith;
    unread = λ p x h. omega (arith, h.short);
    unassigned = λ p x h. omega (arith, h.short);
    storage_unwritten = λ p x h. omega (arith, h.short);
    mapping_unwritten = λ p x h. omega (arith, h.short);
    storage_unread = λ p x h. omega (arith, h.short);
    mapping_unread = λ p x h. omega (arith, h.short);
  };
}

-- Every text of an image's refusals has 256 bytes at most.
pub texts_fit : (R : Rules) (img : List ℕ) → Said Fits (Any Program) (program R img)
unfolding text_of
texts_fit R img = program_said img Fits (λ n p a b c. omega arith) R (λ h. fits img)

own : (img : List ℕ) → AllowsGeneration img (Own img)
unfolding generated_as pick number_of place_of refused
own img = record {
  no_main = refl;
  exhausted = λ p h. refl;
  unread = λ p x h. ap (Refusal.unread p) h.own;
  unassigned = λ p x h. ap (Refusal.unassigned p) h.own;
  storage_unwritten = λ p x h. ap (Refusal.storage_unwritten p) h.own;
  mapping_unwritten = λ p x h. ap (Refusal.mapping_unwritten p) h.own;
  storage_unread = λ p x h. ap (Refusal.storage_unread p) h.own;
  mapping_unread = λ p x h. ap (Refusal.mapping_unread p) h.own;
}

-- Whatever generation refuses of an image that passed the check.
pub generated_own : (R : Rules) (img : List ℕ) (q m : ℕ) → check_of img ≡ Sound q m → Said (Own img) (Any Program) (generate R (contract_at img))
generated_own R img q m e = generate_said img q m e (Own img) (own img) R
