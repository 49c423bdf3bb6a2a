-- Lists of values and of words, an element at a time.
--     regs_none, regs_next, regs_more, byte_there, reg_past     registers of an array
--     regs_append, reg_of, argued_is, stored_is     registers of values
--     arg_last, arg_before     one more value behind others
--     pop_first     the registers from m + 1 down to 1
--     parts_first, parts_later, shift_none, shift_some, shift_more     the chunks of a number
-- Assumes nothing.
use mathlib.Core.Path.{◌≡◌, refl, sym, ap, ◌∙◌}
use mathlib.Core.List.{List, [], ◌∷◌, ◌++◌, map, reverse, reverse_aux}
use Prim.Native.Nat.{ℕ, zero, suc, ◌+◌, ◌-◌, ◌*◌, ◌%◌, ◌≤◌, ◌<◌}
use native.Mathlib.Nat.{zero-add, add-zero, le_of_suc-le-suc, not-suc-le-zero}
use native.Mathlib.Omega.{arith}
use lib.ListN.{length, get_or, set, get_or-eq_default}
use lib.Seq.{get_or-set_same, get_or-set_other}
use borrow.Author.Tests.{ne_eqb}
use Rattle.isa.specs.declared.Opcode.TheVariants as op
use Rattle.rules.specs.Bytes.{pick}
use Rattle.rules.specs.Tree.{BinOp}
use Rattle.rules.specs.Read.{bin_op_of}
use Rattle.rules.specs.Machine.{Imm}
use Rattle.rules.specs.Emit.{Open, emit, push, pop, load, add, opcode, count, parts, shift_in, stores, AtReg, arg}
use Rattle.emit.specs.Steps.{at}
use Rattle.emit.specs.declared.St.{St}
use Rattle.expr.specs.declared.steps.Several.{Several}
use Rattle.expr.specs.Values.{regs_in, regs_of, more, popped, argued, stored}

-- registers of an array
pub regs_none : (a : List ℕ) (i n : ℕ) → n ≤ i → regs_in a i (n - i) ≡ []
unfolding regs_in
regs_none a i n h = let e : n - i ≡ 0 = omega arith in ap (λ (k : ℕ). regs_in a i k) e

pub regs_next : (a : List ℕ) (i n : ℕ) → i < n → regs_in a i (n - i) ≡ get_or a i 0 ∷ regs_in a (i + 1) (n - (i + 1))
unfolding regs_in
regs_next a i n h =
    let e : n - i ≡ suc (n - (i + 1)) = omega arith in
    let f : suc i ≡ i + 1 = omega arith in
    ap (λ (k : ℕ). regs_in a i k) e ∙ ap (λ (j : ℕ). get_or a i 0 ∷ regs_in a j (n - (i + 1))) f

pub length_regs : (a : List ℕ) (i k : ℕ) → length (regs_in a i k) ≡ k
unfolding regs_in
length_regs a i zero = refl
length_regs a i (suc k) = ap suc (length_regs a (suc i) k)

regs_at : (a : List ℕ) (i k j : ℕ) → j < k → get_or (regs_in a i k) j 0 ≡ get_or a (i + j) 0
unfolding regs_in
regs_at a i zero j h = absurd (not-suc-le-zero h)
regs_at a i (suc k) zero h = ap (λ (n : ℕ). get_or a n 0) (sym (add-zero i))
regs_at a i (suc k) (suc j) h = let e : suc i + j ≡ i + suc j = omega arith in regs_at a (suc i) k j (le_of_suc-le-suc h) ∙ ap (λ (n : ℕ). get_or a n 0) e

reg_there : (a : List ℕ) (k j : ℕ) → j < k → get_or a j 0 ≡ get_or (regs_in a 0 k) j 0
reg_there a k j h = sym (regs_at a 0 k j h ∙ ap (λ (n : ℕ). get_or a n 0) (zero-add j))

-- it is a byte's
pub byte_there : (a : List ℕ) (k j r : ℕ) → r ≡ get_or a j 0 → r < 256 → j < k → r % 256 ≡ get_or (regs_in a 0 k) j 0
byte_there a k j r e b h = let f : r % 256 ≡ r = omega arith in f ∙ e ∙ reg_there a k j h

pub reg_past : (a : List ℕ) (k j : ℕ) → k ≤ j → 0 ≡ get_or (regs_in a 0 k) j 0
reg_past a k j h = sym (get_or-eq_default (regs_in a 0 k) _ (rw (length_regs a 0 k) h))

-- one more is stored behind the first k
regs_other : (a : List ℕ) (i k j x : ℕ) → i + k ≤ j → regs_in (set a j x) i k ≡ regs_in a i k
unfolding regs_in
regs_other a i zero j x h = refl
regs_other a i (suc k) j x h = rw (get_or-set_other a j i x 0 (λ z. omega (arith, z, h)), regs_other a (suc i) k j x (omega (arith, h))) refl

regs_last : (a : List ℕ) (i k : ℕ) → regs_in a i (suc k) ≡ regs_in a i k ++ (get_or a (i + k) 0 ∷ [])
unfolding regs_in
regs_last a i zero = ap (λ (n : ℕ). get_or a n 0 ∷ []) (sym (add-zero i))
regs_last a i (suc k) =
    let e : suc i + k ≡ i + suc k = omega arith in
    ap (λ (l : List ℕ). get_or a i 0 ∷ l) (regs_last a (suc i) k ∙ ap (λ (n : ℕ). regs_in a (suc i) k ++ (get_or a n 0 ∷ [])) e)

pub regs_more : (a : List ℕ) (k x : ℕ) → k < length a → regs_in (set a k x) 0 (k + 1) ≡ regs_in a 0 k ++ (x ∷ [])
regs_more a k x h =
    let e : k + 1 ≡ suc k = omega arith in
    let z : 0 + k ≡ k = omega arith in
    ap (regs_in (set a k x) 0) e
    ∙ regs_last (set a k x) 0 k
    ∙ ap (λ (l : List ℕ). l ++ (get_or (set a k x) (0 + k) 0 ∷ [])) (regs_other a 0 k k x (omega arith))
    ∙ ap (λ (n : ℕ). regs_in a 0 k ++ (n ∷ [])) (ap (λ (n : ℕ). get_or (set a k x) n 0) z ∙ get_or-set_same a k x 0 h)

-- registers of values
pub regs_append : (vs : List AtReg) (v : AtReg) → regs_of (vs ++ (v ∷ [])) ≡ regs_of vs ++ (v.reg ∷ [])
regs_append [] v = refl
regs_append (x ∷ vs) v = ap (λ (l : List ℕ). x.reg ∷ l) (regs_append vs v)

pub length_regs_of : (vs : List AtReg) → length (regs_of vs) ≡ length vs
length_regs_of [] = refl
length_regs_of (v ∷ vs) = ap suc (length_regs_of vs)

pub reg_of : (vs : List AtReg) (j : ℕ) → get_or (regs_of vs) j 0 ≡ (arg j vs).reg
unfolding arg
reg_of [] j = refl
reg_of (v ∷ vs) zero = refl
reg_of (v ∷ vs) (suc j) = reg_of vs j

-- the value behind others, and those before it
pub arg_last : (vs : List AtReg) (v : AtReg) (j : ℕ) → length vs ≡ j → arg j (vs ++ (v ∷ [])) ≡ v
unfolding arg
arg_last [] v j e = ap (λ (n : ℕ). get_or (v ∷ []) n (at 0 0)) (sym e)
arg_last (x ∷ vs) v j e = ap (λ (n : ℕ). get_or (x ∷ (vs ++ (v ∷ []))) n (at 0 0)) (sym e) ∙ arg_last vs v (length vs) refl

pub arg_before : (vs : List AtReg) (v : AtReg) (j : ℕ) → (length vs ≡ j → ⊥) → arg j (vs ++ (v ∷ [])) ≡ arg j vs
unfolding arg
arg_before [] v zero h = absurd (h refl)
arg_before [] v (suc j) h = refl
arg_before (x ∷ vs) v zero h = refl
arg_before (x ∷ vs) v (suc j) h = arg_before vs v j (λ e. h (ap suc e))

pub argued_is : (p : ℕ) (vs : List AtReg) → argued (regs_of vs) p ≡ map (λ (v : AtReg). push p v.reg) vs
argued_is p [] = refl
argued_is p (v ∷ vs) = ap (λ (l : List Open). push p v.reg ∷ l) (argued_is p vs)

pub stored_is : (p q i : ℕ) (vs : List AtReg) → stored q i (regs_of vs) p ≡ stores p q i vs
unfolding stores
stored_is p q i [] = refl
stored_is p q i (v ∷ vs) = ap (λ (l : List Open). emit p op.Store 0 q v.reg (Imm.pos (i * 8)) ∷ l) (stored_is p q (suc i) vs)

pub store_none : (a : List ℕ) (q i n p : ℕ) → n ≤ i → stored q i (regs_in a i (n - i)) p ≡ []
unfolding stores
store_none a q i n p h = ap (λ (l : List ℕ). stored q i l p) (regs_none a i n h)

-- one more value, by its number
module _ (v : Several) (s : St) where
  pub more_first : v.count ≡ 0 → record { st = s; count = v.count + 1; first = s.next; second = v.second } ≡ more v s
  unfolding pick
  more_first e = rw e refl

  pub more_second : v.count ≡ 1 → record { st = s; count = v.count + 1; first = v.first; second = s.next } ≡ more v s
  unfolding pick
  more_second e = rw e refl

  pub more_later : (v.count ≡ 0 → ⊥) → (v.count ≡ 1 → ⊥) → record { st = s; count = v.count + 1; first = v.first; second = v.second } ≡ more v s
  unfolding pick
  more_later a b = simp (ne_eqb _ _ a, ne_eqb _ _ b)

-- the registers from k down to 1
count_last : (a k : ℕ) → count a (suc k) ≡ count a k ++ ((a + k) ∷ [])
unfolding count
count_last a zero = ap (λ (n : ℕ). n ∷ []) (sym (add-zero a))
count_last a (suc k) = let e : suc a + k ≡ a + suc k = omega arith in ap (λ (l : List ℕ). a ∷ l) (count_last (suc a) k ∙ ap (λ (n : ℕ). count (suc a) k ++ (n ∷ [])) e)

reverse_last : (xs : List ℕ) (y : ℕ) (r : List ℕ) → reverse_aux (xs ++ (y ∷ [])) r ≡ y ∷ reverse_aux xs r
reverse_last [] y r = refl
reverse_last (x ∷ xs) y r = reverse_last xs y (x ∷ r)

pub pop_first : (m p : ℕ) → popped (suc m) p ≡ pop p (suc m) ∷ popped m p
pop_first m p =
    let e : 1 + m ≡ suc m = omega arith in
    ap (λ (l : List ℕ). map (pop p) (reverse l)) (count_last 1 m ∙ ap (λ (n : ℕ). count 1 m ++ (n ∷ [])) e) ∙ ap (map (pop p)) (reverse_last (count 1 m) (suc m) [])

-- the chunks of a number
module _ (p r s t : ℕ) where
  pub parts_first : (c : ℕ) (cs : List ℕ) → (c ≡ 0 → ⊥) → parts p r s t (c ∷ cs) ≡ load p r c ∷ shift_in p r s t cs
  unfolding parts
  parts_first zero cs h = absurd (h refl)
  parts_first (suc c) cs h = refl

  pub parts_later : (c : ℕ) (cs : List ℕ) → c ≡ 0 → parts p r s t (c ∷ cs) ≡ parts p r s t cs
  unfolding parts
  parts_later zero cs h = refl
  parts_later (suc c) cs h = absurd (omega (arith, h))

  pub shift_none : (c : ℕ) → c ≡ 0 → shift_in p r s t (c ∷ []) ≡ emit p op.Mul r r s (Imm.pos 0) ∷ []
  unfolding shift_in
  shift_none zero h = refl
  shift_none (suc c) h = absurd (omega (arith, h))

  pub shift_some : (c : ℕ) → (c ≡ 0 → ⊥) → shift_in p r s t (c ∷ []) ≡ emit p op.Mul r r s (Imm.pos 0) ∷ load p t c ∷ add p r r t ∷ []
  unfolding shift_in
  shift_some zero h = absurd (h refl)
  shift_some (suc c) h = refl

  pub shift_more : (c : ℕ) (cs : List ℕ) → shift_in p r s t (c ∷ cs) ≡ shift_in p r s t (c ∷ []) ++ shift_in p r s t cs
  unfolding shift_in
  shift_more zero cs = refl
  shift_more (suc c) cs = refl

-- a byte that is no BinOp's
above_five : (k : ℕ) → (k ≡ 0 → ⊥) → (k ≡ 1 → ⊥) → (k ≡ 2 → ⊥) → (k ≡ 3 → ⊥) → (k ≡ 4 → ⊥) → 5 ≤ k
above_five k a b c d e = omega arith

above_ten : (k : ℕ) → 5 ≤ k → (k ≡ 5 → ⊥) → (k ≡ 6 → ⊥) → (k ≡ 7 → ⊥) → (k ≡ 8 → ⊥) → (k ≡ 9 → ⊥) → 10 ≤ k
above_ten k l a b c d e = omega arith

pub op_other : (k : ℕ) → (k ≡ 0 → ⊥) → (k ≡ 1 → ⊥) → (k ≡ 2 → ⊥) → (k ≡ 3 → ⊥) → (k ≡ 4 → ⊥) → (k ≡ 5 → ⊥) → (k ≡ 6 → ⊥) → (k ≡ 7 → ⊥) → (k ≡ 8 → ⊥) → (k ≡ 9 → ⊥)
    → op.Add ≡ opcode (bin_op_of k)
unfolding bin_op_of
op_other k a b c d e f g h i j = ap opcode (sym (get_or-eq_default (BinOp.add ∷ BinOp.sub ∷ BinOp.mul ∷ BinOp.div ∷ BinOp.eq ∷ BinOp.neq ∷ BinOp.lt ∷ BinOp.gt ∷ BinOp.lte ∷ BinOp.gte ∷ []) BinOp.add
    (above_ten k (above_five k a b c d e) f g h i j)))
