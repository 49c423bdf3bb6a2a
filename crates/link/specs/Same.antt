-- Linking the numbers of open words is linking the open words (rules Link), with the functions known by their index.
--     Placed       which first words F has: those of the table T, whose entries are the functions fs in turn
--     same         what is linked is the numbers of rules' `link`
-- Assumes nothing.
use Rattle.std.specs.Prelude.{◌≡◌, Bool, true, false, ℕ, suc, ◌+◌, ◌-◌, ◌*◌, ◌/◌, ◌%◌, ◌^◌, ◌<◌, ◌≤◌, leb, length, get_or, None, Option, Some}
use Rattle.std.proofs.Math.Path.{refl, ap}
use Rattle.std.proofs.Common.{subst, ◌∙◌, arith, leb-true, leb-false, le-leb, lt-ltb, le-ltb}
use mathlib.Core.List.{List, [], ◌∷◌, map}
use Rattle.isa.specs.declared.Instruction.{Instruction}
use Rattle.isa.specs.declared.Opcode.{Opcode}
use Rattle.isa.specs.declared.Opcode.TheVariants as op
use Rattle.isa.specs.Word as isa
use Rattle.isa.specs.Laws.{word_known, word_below, offset_ahead, offset_back}
use Rattle.isa.specs.Signed.{offset_of}
use Rattle.rules.specs.Bytes.{pick, Name, eq_name}
use Rattle.rules.specs.Tables.{or_else, last, last_index}
use Rattle.rules.specs.Tree.{Function, Contract}
use Rattle.rules.specs.Machine.{Imm, Word, Entry, bits_of}
use Rattle.rules.specs.Emit.{Open, word, calls}
use Rattle.rules.specs.Link.{less, distance, patch, link}
use Rattle.emit.specs.Ran.{or_zero, word_of, or_first, call_of, raw}
use Rattle.link.specs.Linked.{distance_to, linked, kept_word, linked_from}

-- The number of a word, its fields cut to what an Instruction holds.
abbrev pub cut : Word → ℕ
cut w = word_of w.op w.rd w.rs1 w.rs2 (bits_of w.imm)

-- From index j on, F has the first words of the entries T, which have the functions' names and come before 2^32.
abbrev pub Placed : List ℕ → ℕ → List Function → List Entry → Type 0
Placed F j [] [] = Unit {0}
Placed F j [] (e ∷ T) = ⊥
Placed F j (f ∷ fs) [] = ⊥
Placed F j (f ∷ fs) (e ∷ T) = (e.name ≡ f.name) × ((j < length F) × ((get_or F j 0 ≡ e.first) × ((e.first < 2 ^ 32) × Placed F (suc j) fs T)))

-- What two look-ups found: the same function, by its index and in the table.
data Agree (F : List ℕ) : Option ℕ → Option Entry → Type 0 where
  both : (k : ℕ) (e : Entry) → k < length F → get_or F k 0 ≡ e.first → e.first < 2 ^ 32 → Agree F (Some k) (Some e)
  neither : Agree F None None

agree_else : {F : List ℕ} {a b : Option ℕ} {x y : Option Entry} → Agree F a x → Agree F b y → Agree F (or_else a b) (or_else x y)
unfolding or_else
agree_else (both k e h g l) q = both k e h g l
agree_else neither q = q

agree_pick : {F : List ℕ} (t : Bool) (k : ℕ) (e : Entry) → k < length F → get_or F k 0 ≡ e.first → e.first < 2 ^ 32 → Agree F (pick t (Some k) None) (pick t (Some e) None)
unfolding pick
agree_pick true k e h g l = both k e h g l
agree_pick false k e h g l = neither

agree_here : {F : List ℕ} (k : ℕ) (f : Function) (e : Entry) (x : Name) → e.name ≡ f.name → k < length F → get_or F k 0 ≡ e.first → e.first < 2 ^ 32
    → Agree F (pick (eq_name f.name x) (Some k) None) (pick (eq_name e.name x) (Some e) None)
agree_here {F} k f e x q h g l = subst (λ (n : Name). Agree F (pick (eq_name n x) (Some k) None) (pick (eq_name e.name x) (Some e) None)) q (agree_pick (eq_name e.name x) k e h g l)

agrees : (F : List ℕ) (j : ℕ) (fs : List Function) (T : List Entry) (x : Name) → Placed F j fs T
    → Agree F (last_index (λ (f : Function). f.name) j x fs) (last (λ (e : Entry). e.name) x T)
unfolding last last_index
agrees F j [] [] x h = neither
agrees F j [] (e ∷ T) x h = absurd h
agrees F j (f ∷ fs) [] x h = absurd h
agrees F j (f ∷ fs) (e ∷ T) x h = agree_else (agrees F (suc j) fs T x h.1.1.1.1) (agree_here j f e x h.0 h.1.0 h.1.1.0 h.1.1.1.0)

-- 000: a target less an own index, as 32 bits
bits_less : (t i : ℕ) → t < 2 ^ 32 → i < 2 ^ 32 → offset_of (t % 2 ^ 32) (i % 2 ^ 32) ≡ bits_of (less t i)
unfolding less bits_of pick
bits_less t i ht hi =
    let a : t % 2 ^ 32 ≡ t = omega (arith, ht) in
    let b : i % 2 ^ 32 ≡ i = omega (arith, hi) in
    rw (a, b) (by (leb i t) refl)
  where
    by : (b : Bool) → leb i t ≡ b → offset_of t i ≡ bits_of (pick b (Imm.pos (t - i)) (Imm.neg (i - t)))
    by true e = offset_ahead t i (leb-true _ _ e) ht
    by false e = offset_back t i (leb-false _ _ e) hi

-- Only the 32 bits count.
word_cut : (o : Opcode) (d a b i k : ℕ) → i % 2 ^ 32 ≡ k % 2 ^ 32 → word_of o d a b i ≡ word_of o d a b k
unfolding word_of
word_cut o d a b i k e = rw e refl

zero_all : (P : ℕ → Type 0) → P 0 → (n : Option ℕ) → ((w : ℕ) → n ≡ Some w → P w) → P (or_zero n)
unfolding or_zero
zero_all P z (Some w) h = h w refl
zero_all P z None h = z

-- No word has top bits, and each has an opcode.
module _ (o : Opcode) (d a b i : ℕ) where
  fields : Instruction
  fields = record { opcode = o; rd = d % 256; rs1 = a % 256; rs2 = b % 256; imm = i % 2 ^ 32 }

  pub below : word_of o d a b i < 2 ^ 55
  unfolding word_of fields
  below = zero_all (λ (w : ℕ). w < 2 ^ 55) (omega arith) (isa.encode_of fields 0) (λ w e. word_below fields w (omega arith) e)

  known : word_of o d a b i % 256 < 31
  unfolding word_of fields
  known = zero_all (λ (w : ℕ). w % 256 < 31) (omega arith) (isa.encode_of fields 0) (λ w e. omega (arith, word_known fields 0 w e))

linked_call : (F : List ℕ) (i k : ℕ) → k ≤ 256 → linked F i (call_of k) ≡ word_of op.Call 0 0 0 (distance_to F i k)
unfolding linked call_of pick
linked_call F i k h =
    let e : 31 ≤ (255 + 256 * (k % 2 ^ 56)) % 256 = omega arith in
    let g : (255 + 256 * (k % 2 ^ 56)) / 256 ≡ k = omega arith in
    rw (le-leb _ _ e, g) refl

linked_open : (F : List ℕ) (i : ℕ) (a : Option ℕ) (x : Option Entry) → Agree F a x → length F ≤ 256 → i < 2 ^ 32
    → linked F i (call_of (or_first a)) ≡ word_of op.Call 0 0 0 (bits_of (distance x i))
unfolding or_first distance distance_to pick bits_of
linked_open F i (Some k) (Some e) (both _ _ h g l) f s =
    linked_call F i k (omega arith) ∙ word_cut op.Call 0 0 0 _ _ (ap (λ (n : ℕ). n % 2 ^ 32) (rw (lt-ltb _ _ h, g) (bits_less e.first i l s)))
linked_open F i None (Some e) x8 f s = elim x8 [ ]
linked_open F i (Some k) None x7 f s = elim x7 [ ]
linked_open F i None None neither f s = linked_call F i 256 (omega arith) ∙ rw (le-ltb _ _ f) refl

module _ (C : Contract) (F : List ℕ) (T : List Entry) (few : length F ≤ 256) (placed : Placed F 0 C.functions T) where
  one : (i : ℕ) (o : Open) → i < 2 ^ 32 → linked F i (raw C o) ≡ cut (patch T i o)
  unfolding raw patch
  one i (word p b w) h = kept
    where
      kept : linked F i (word_of w.op w.rd w.rs1 w.rs2 (bits_of w.imm)) ≡ cut w
      kept = kept_word F i _ (known w.op w.rd w.rs1 w.rs2 (bits_of w.imm))
  one i (calls p x) h = linked_open F i _ _ (agrees F 0 C.functions T x placed) few h

  pub same : (ws : List Open) (i : ℕ) → i + length ws ≤ 2 ^ 32 → linked_from F i (map (raw C) ws) ≡ map cut (link T i ws)
  unfolding linked_from link
  same [] i h = refl
  same (o ∷ ws) i h = ap (λ (n : ℕ). n ∷ linked_from F (suc i) (map (raw C) ws)) (one i o (omega arith)) ∙ ap (λ (l : List ℕ). cut (patch T i o) ∷ l) (same ws (suc i) (omega arith))
