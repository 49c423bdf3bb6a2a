-- Number, place and count of every refusal before the room is looked at: an instance of `program_said`.
-- Assumes nothing.
use Rattle.std.specs.Prelude.{◌≡◌, refl, List, ℕ, ◌≤◌, ◌<◌, length}
use Rattle.std.proofs.Common.{ap, subst, sym, arith}
use Rattle.rules.specs.declared.Answer.{Answer}
use Rattle.rules.specs.Refusal.{Refusal, answer, refused, number_of, place_of}
use Rattle.rules.specs.Seen.{Sound}
use Rattle.rules.specs.Check.{check_of}
use Rattle.rules.specs.Read.{contract_at}
use Rattle.rules.specs.Link.{Program, generate}
use Rattle.rules.specs.Emit.{Rules}
use Rattle.rules.specs.Build.{analysed, judged, program}
use Rattle.bounds.specs.Said.{Said, Any, Allows, AllowsFaults}
use Rattle.bounds.proofs.ContractOf.{uncut}
use Rattle.bounds.specs.SaidProgram.{Of}
use Rattle.bounds.proofs.SaidProgram.{generate_said, analysed_said, judged_said, program_said}
use Rattle.bounds.specs.Refused.{Plain}

-- So it is its number and its place.
pub uncounted : (r : Refusal) → Plain r → refused r ≡ answer (number_of r) (place_of r) 0
unfolding number_of place_of
uncounted r h = ap (answer (refused r).refusal (refused r).place) h.none

row : (r : Refusal) (n p : ℕ) → refused r ≡ answer n p 0 → 1 ≤ n → n < 256 → p ≤ 65536 → Plain r
unfolding number_of place_of
row r n p e a b c = record {
  some = subst (λ (x : Answer). 1 ≤ x.refusal) (sym e) a;
  few = subst (λ (x : Answer). x.refusal < 256) (sym e) b;
  near = subst (λ (x : Answer). x.place ≤ 65536) (sym e) c;
  none = ap (λ (x : Answer). x.count) e;
}

faults : AllowsFaults Plain
unfolding refused
faults n p a b c = row _ n p refl a (omega arith) c

plain : (img : List ℕ) → length img ≤ 65536 → Allows img Plain
unfolding refused
plain img small = record {
  front = record {
    undefined_name = λ p x h. row _ 10 p refl (omega arith) (omega arith) (omega (arith, h.here, small));
    undefined_target = λ p x h. row _ 11 p refl (omega arith) (omega arith) (omega (arith, h.here, small));
    assign_type = λ p a b h f g. row _ 12 p refl (omega arith) (omega arith) (omega (arith, h, small));
    return_type = λ p a b h f g. row _ 13 p refl (omega arith) (omega arith) (omega (arith, h, small));
    no_field = λ p s x h f g. row _ 14 p refl (omega arith) (omega arith) (omega (arith, h, small));
    not_struct = λ p h. row _ 15 p refl (omega arith) (omega arith) (omega (arith, h, small));
    init_type = λ p x h. row _ 16 p refl (omega arith) (omega arith) (omega (arith, h.here, small));
    init_field = λ p x h. row _ 17 p refl (omega arith) (omega arith) (omega (arith, h.here, small));
    no_struct = λ p x h. row _ 18 p refl (omega arith) (omega arith) (omega (arith, h.here, small));
    arg_count = λ p f a b h. row _ 19 p refl (omega arith) (omega arith) (omega (arith, h.here, small));
    arg_type = λ p i f h g. row _ 20 p refl (omega arith) (omega arith) (omega (arith, h, small));
    no_function = λ p x h. row _ 21 p refl (omega arith) (omega arith) (omega (arith, h.here, small));
    operands = λ p h. row _ 22 p refl (omega arith) (omega arith) (omega (arith, h, small));
    ambiguous = λ p h. row _ 30 p refl (omega arith) (omega arith) (omega (arith, h, small));
  };
  generation = record {
    no_main = row _ 40 0 refl (omega arith) (omega arith) (omega arith);
    exhausted = λ p h. row _ 41 p refl (omega arith) (omega arith) (omega (arith, h, small));
    unread = λ p x h. row _ 42 p refl (omega arith) (omega arith) (omega (arith, h.here, small));
    unassigned = λ p x h. row _ 43 p refl (omega arith) (omega arith) (omega (arith, h.here, small));
    storage_unwritten = λ p x h. row _ 44 p refl (omega arith) (omega arith) (omega (arith, h.here, small));
    mapping_unwritten = λ p x h. row _ 45 p refl (omega arith) (omega arith) (omega (arith, h.here, small));
    storage_unread = λ p x h. row _ 46 p refl (omega arith) (omega arith) (omega (arith, h.here, small));
    mapping_unread = λ p x h. row _ 47 p refl (omega arith) (omega arith) (omega (arith, h.here, small));
  };
}

-- Of any image.
pub analysed_plain : (img : List ℕ) → Said Plain (Of img) (analysed img)
analysed_plain img = analysed_said img Plain faults (λ h. (plain img h).front)

pub judged_plain : (img : List ℕ) → Said Plain (Of img) (judged img)
judged_plain img = judged_said img Plain faults (λ h. (plain img h).front)

-- What generation refuses of one that passed the check.
pub generate_plain : (R : Rules) (img : List ℕ) (q m : ℕ) → check_of img ≡ Sound q m → Said Plain (Any Program) (generate R (contract_at img))
generate_plain R img q m e = generate_said img q m e Plain (plain img (uncut img q m e).bytes).generation R

pub program_plain : (R : Rules) (img : List ℕ) → Said Plain (Any Program) (program R img)
program_plain R img = program_said img Plain faults R (plain img)
