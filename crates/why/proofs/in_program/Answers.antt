-- `why::in_program` meets its contract.
use mathlib.Core.Path.{◌≡◌, refl, ap}
use Prim.Native.Nat.{ℕ, ◌≤◌, ◌<◌}
use native.Mathlib.Omega.{arith}
use Rattle.codegen.proofs.Firsts.{given, at_most}
use Rattle.seek.specs.Spots.{called}
use Rattle.why.specs.Answers.{opened_main, opened_plain, opened_in}
use Rattle.why.proofs.in_program.Goals.{then-k-count, else-k-count}
use Rattle.why.proofs.in_program.Goals as goal

-- Where the function ends, by cases: another one follows, or none.
ahead : {j count end next n : ℕ} → j < count → end ≡ next → (j < count → end ≡ next) × (count ≤ j → end ≡ n)
ahead l e = (λ _. e, λ m. absurd (omega (arith, l, m)))

behind : {j count end next n : ℕ} → count ≤ j → end ≡ n → (j < count → end ≡ next) × (count ≤ j → end ≡ n)
behind l e = (λ m. absurd (omega (arith, l, m)), λ _. e)

pub returns-then-want-eq1 : goal.returns-then-want-eq1
returns-then-want-eq1 c = opened_main c.if-want-eq1.true (ap (called 0) c.main_index.ensures)

pub returns-then-want-lt3 : goal.returns-then-want-lt3
returns-then-want-lt3 c = opened_plain c.if-want-lt3.true c.if-want-eq1.false c.own.ensures

pub function_of-k-requires : goal.function_of-k-requires
function_of-k-requires c = omega (arith, c.function_count-count.ensures, at_most c.args.analysed.now.contract.img.now)

pub overflow_add-k : goal.overflow_add-k
overflow_add-k c = record { fits = omega (arith, c.function_count-count.ensures, at_most c.args.analysed.now.contract.img.now, c.function_of-k.ensures.within (omega (arith, c.function_count-count.ensures, c.requires.some))) }

pub offset_bounds-firsts-k : goal.offset_bounds-firsts-k
offset_bounds-firsts-k c = record { fits = omega (arith, c.function_count-count.ensures, at_most c.args.analysed.now.contract.img.now, c.function_of-k.ensures.within (omega (arith, c.function_count-count.ensures, c.requires.some))) }

pub bounds-firsts-k : goal.bounds-firsts-k
bounds-firsts-k c = omega (arith, c.if-k-count.true, c.function_count-count.ensures, at_most c.args.analysed.now.contract.img.now)

pub offset_bounds-firsts-k-2 : goal.offset_bounds-firsts-k-2
offset_bounds-firsts-k-2 c = record { fits = omega (arith, c.function_count-count.ensures, at_most c.args.analysed.now.contract.img.now, c.function_of-k.ensures.within (omega (arith, c.function_count-count.ensures, c.requires.some))) }

pub bounds-firsts-k-2 : goal.bounds-firsts-k-2
bounds-firsts-k-2 c = omega (arith, c.function_count-count.ensures, at_most c.args.analysed.now.contract.img.now, c.function_of-k.ensures.within (omega (arith, c.function_count-count.ensures, c.requires.some)))

pub in_function-requires : goal.in_function-requires
in_function-requires c = given c.function_of-k.result c.requires.checked (omega (arith, c.function_count-count.ensures, c.function_of-k.ensures.within (omega (arith, c.function_count-count.ensures, c.requires.some)))) (c.function_place.ensures (omega (arith, c.function_count-count.ensures, c.function_of-k.ensures.within (omega (arith, c.function_count-count.ensures, c.requires.some))))) c.requires.size

pub shape_of-scope : goal.shape_of-scope
shape_of-scope c = c.in_function.auto.scope

pub returns : goal.returns
returns c = opened_in c.if-want-lt3.false c.function_count-count.ensures c.requires.some c.function_of-k.ensures (c.function_place.ensures (omega (arith, c.function_count-count.ensures, c.function_of-k.ensures.within (omega (arith, c.function_count-count.ensures, c.requires.some))))) refl (elim c.if-k-count.branch [ then-k-count w ↦ ahead w.if-k-count.true w.end-is | else-k-count w ↦ behind w.if-k-count.false w.end-is ]) c.in_function.ensures
