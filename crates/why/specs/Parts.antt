-- A word of the program, by the function that it lies in (000: generate, the loop over the functions).
--     linked_marked  marking changes no word; marked_is: the opening, then the functions; marked_some: there is one
--     Part, part     the words of the function with index k among those of all
--     targets        the first word of the last function of a name, by that function's index
-- Assumes nothing.
use Rattle.std.specs.Prelude.{◌≡◌, refl, Bool, true, false, get_or, None, Option, Some}
use Rattle.std.proofs.Common.{sym, ◌∙◌, subst, arith, length-append}
use Rattle.std.proofs.Math.Path.{ap}
use mathlib.Core.List.{List, [], ◌∷◌, ◌++◌, map}
use Prim.Native.Nat.{ℕ, zero, suc, ◌+◌, ◌-◌, ◌≤◌, ◌<◌}
use Rattle.std.proofs.Math.ListN.{length}
use Rattle.rules.specs.Bytes.{pick, Name, eq_name}
use Rattle.rules.specs.Tables.{or_else, last, last_index, mapped, nth}
use Rattle.rules.specs.Tree.{Function, Contract}
use Rattle.rules.specs.Read.{function_at}
use Rattle.rules.specs.Refusal.{Res, ok, bad, ◌>>=◌}
use Rattle.rules.specs.Builtins.{main}
use Rattle.rules.specs.Machine.{Entry}
use Rattle.rules.specs.Emit.{Rules, Open}
use Rattle.rules.specs.Generate.{function}
use Rattle.rules.specs.Link.{Built, Program, functions, link, opening, with_main, generate}
use Rattle.rules.specs.Why.{marked}
use Rattle.compiler.specs.Made.{firsts_of}
use Rattle.seek.specs.Goes.{IsOk}
use Rattle.seek.specs.Found.{nth_first, nth_later}

abbrev value_of : {A : Type 0} → A → Res A → A
value_of a (ok b) = b
value_of a (bad q) = a

pub ok_same : {A : Type 0} {x y : A} → ok x ≡ ok y → x ≡ y
ok_same {A} {x} e = ap (value_of x) e

-- An answer that was had in two steps.
record Twice {A B : Type 0} (m : Res A) (k : A → Res B) (b : B) : Type 0 where
  one : A
  first : m ≡ ok one
  second : k one ≡ ok b

twice : {A B : Type 0} (m : Res A) (k : A → Res B) (b : B) → (m >>= k) ≡ ok b → Twice m k b
unfolding ◌>>=◌
twice (ok a) k b e = record { one = a; first = refl; second = e }
twice (bad q) k b e = absurd (subst IsOk (sym e) tt)

-- Marking changes no word.
pub linked_marked : (R : Rules) (C : Contract) → generate R C ≡ (marked R C >>= λ b. ok (record { words = link b.table 0 b.code; table = b.table }))
unfolding generate marked with_main ◌>>=◌
linked_marked R C = go (last (λ (f : Function). f.name) main C.functions) (functions R C 3 C.functions)
  where
    go : (o : Option Function) (m : Res Built) → with_main {A = Program} o (m >>= λ b. ok (record { words = link b.table 0 (opening R ++ b.code); table = b.table }))
        ≡ (with_main {A = Built} o (m >>= λ b. ok (record { code = opening R ++ b.code; table = b.table })) >>= λ b. ok (record { words = link b.table 0 b.code; table = b.table }))
    go None m = refl
    go (Some f) (ok b) = refl
    go (Some f) (bad q) = refl

-- The functions' words behind the opening.
pub record Marked (R : Rules) (C : Contract) (b : Built) : Type 0 where
  pub rest : Built
  pub is : functions R C 3 C.functions ≡ ok rest
  pub code : b.code ≡ opening R ++ rest.code
  pub table : b.table ≡ rest.table

pub marked_is : (R : Rules) (C : Contract) (b : Built) → marked R C ≡ ok b → Marked R C b
unfolding marked with_main
marked_is R C b e = go (last (λ (f : Function). f.name) main C.functions) e
  where
    go : (o : Option Function) → with_main o (functions R C 3 C.functions >>= λ r. ok (record { code = opening R ++ r.code; table = r.table })) ≡ ok b → Marked R C b
    go None e = absurd (subst IsOk (sym e) tt)
    go (Some f) e =
        let t = twice (functions R C 3 C.functions) _ b e in
        record { rest = t.one; is = t.first; code = ap (λ (x : Built). x.code) (sym (ok_same t.second)); table = ap (λ (x : Built). x.table) (sym (ok_same t.second)) }

-- There is a function, since there is a main.
pub marked_some : (R : Rules) (C : Contract) (b : Built) → marked R C ≡ ok b → 0 < length C.functions
unfolding marked with_main last
marked_some R C b e = go C.functions e
  where
    go : (fs : List Function) → with_main (last (λ (f : Function). f.name) main fs) (functions R C 3 C.functions >>= λ r. ok (record { code = opening R ++ r.code; table = r.table })) ≡ ok b → 0 < length fs
    go [] e = absurd (subst IsOk (sym e) tt)
    go (f ∷ fs) e = omega arith

-- One function, then the others.
record More (R : Rules) (C : Contract) (i : ℕ) (f : Function) (fs : List Function) (b : Built) : Type 0 where
  words : List Open
  rest : Built
  is : function R C f ≡ ok words
  others : functions R C (i + length words) fs ≡ ok rest
  code : b.code ≡ words ++ rest.code
  table : b.table ≡ record { place = f.place; name = f.name; params = length f.params; first = i; past = i + length words } ∷ rest.table

more : (R : Rules) (C : Contract) (i : ℕ) (f : Function) (fs : List Function) (b : Built) → functions R C i (f ∷ fs) ≡ ok b → More R C i f fs b
unfolding functions
more R C i f fs b e =
    let s = twice (function R C f) _ b e in
    let t = twice (functions R C (i + length s.one) fs) _ b s.second in
    record { words = s.one; rest = t.one; is = s.first; others = t.first; code = ap (λ (x : Built). x.code) (sym (ok_same t.second)); table = ap (λ (x : Built). x.table) (sym (ok_same t.second)) }

module _ (R : Rules) (C : Contract) (img : List ℕ) where
  abbrev all : ℕ → List ℕ → Res Built
  all i ps = functions R C i (map (function_at img) ps)

  -- The first function starts where they all do.
  pub first_is : (i : ℕ) (ps : List ℕ) (b : Built) → all i ps ≡ ok b → 0 < length ps → get_or (firsts_of b.table) 0 0 ≡ i
  first_is i [] b e h = absurd (omega arith)
  first_is i (p ∷ ps) b e h = ap (λ (T : List Entry). get_or (firsts_of T) 0 0) (more R C i (function_at img p) (map (function_at img) ps) b e).table

  none_left : (i : ℕ) (ps : List ℕ) (b : Built) → all i ps ≡ ok b → 0 ≡ length ps → length b.code ≡ 0
  unfolding functions
  none_left i [] b e h = ap (λ (x : Built). length x.code) (sym (ok_same e))
  none_left i (p ∷ ps) b e h = absurd (omega arith)

  pub record Part (i : ℕ) (ps : List ℕ) (b : Built) (k : ℕ) : Type 0 where
    pub words : List Open
    pub is : function R C (function_at img (get_or ps k 0)) ≡ ok words
    pub base : i ≤ get_or (firsts_of b.table) k 0
    pub inside : (j : ℕ) → j < length words → nth (get_or (firsts_of b.table) k 0 - i + j) b.code ≡ nth j words
    pub next : suc k < length ps → get_or (firsts_of b.table) (suc k) 0 ≡ get_or (firsts_of b.table) k 0 + length words
    pub last : suc k ≡ length ps → i + length b.code ≡ get_or (firsts_of b.table) k 0 + length words
    pub fits : get_or (firsts_of b.table) k 0 + length words ≤ i + length b.code

  pub part : (i : ℕ) (ps : List ℕ) (b : Built) (k : ℕ) → all i ps ≡ ok b → k < length ps → Part i ps b k
  part i [] b k e h = absurd (omega arith)
  part i (p ∷ ps) b zero e h =
      let m = more R C i (function_at img p) (map (function_at img) ps) b e in
      let z : get_or (firsts_of b.table) 0 0 ≡ i = ap (λ (T : List Entry). get_or (firsts_of T) 0 0) m.table in
      let l : length b.code ≡ length m.words + length m.rest.code = ap length m.code ∙ length-append m.words m.rest.code in
      record {
        words = m.words;
        is = m.is;
        base = omega (arith, z);
        inside = λ j l.
            let n : get_or (firsts_of b.table) 0 0 - i + j ≡ j = omega (arith, z) in
            ap (λ (x : ℕ). nth x b.code) n ∙ ap (nth j) m.code ∙ nth_first m.words m.rest.code j l;
        next = λ l. ap (λ (T : List Entry). get_or (firsts_of T) 1 0) m.table ∙ first_is (i + length m.words) ps m.rest m.others (omega (arith, l)) ∙ ap (λ (x : ℕ). x + length m.words) (sym z);
        last = λ q. omega (arith, l, z, none_left (i + length m.words) ps m.rest m.others (omega (arith, q)));
        fits = omega (arith, l, z);
      }
  part i (p ∷ ps) b (suc k) e h =
      let m = more R C i (function_at img p) (map (function_at img) ps) b e in
      let q = part (i + length m.words) ps m.rest k m.others (omega arith) in
      let z : get_or (firsts_of b.table) (suc k) 0 ≡ get_or (firsts_of m.rest.table) k 0 = ap (λ (T : List Entry). get_or (firsts_of T) (suc k) 0) m.table in
      let l : length b.code ≡ length m.words + length m.rest.code = ap length m.code ∙ length-append m.words m.rest.code in
      record {
        words = q.words;
        is = q.is;
        base = omega (arith, z, q.base);
        inside = λ j y.
            let n : get_or (firsts_of b.table) (suc k) 0 - i + j ≡ length m.words + (get_or (firsts_of m.rest.table) k 0 - (i + length m.words) + j) = omega (arith, z, q.base) in
            ap (λ (x : ℕ). nth x b.code) n ∙ ap (nth (length m.words + (get_or (firsts_of m.rest.table) k 0 - (i + length m.words) + j))) m.code
            ∙ nth_later m.words m.rest.code (get_or (firsts_of m.rest.table) k 0 - (i + length m.words) + j) ∙ q.inside j y;
        next = λ y. ap (λ (T : List Entry). get_or (firsts_of T) (suc (suc k)) 0) m.table ∙ q.next (omega (arith, y)) ∙ ap (λ (x : ℕ). x + length q.words) (sym z);
        last = λ y. omega (arith, l, z, q.last (omega (arith, y)));
        fits = omega (arith, l, z, q.fits);
      }

  pub table_length : (i : ℕ) (ps : List ℕ) (b : Built) → all i ps ≡ ok b → length b.table ≡ length ps
  unfolding functions
  table_length i [] b e = ap (λ (x : Built). length x.table) (sym (ok_same e))
  table_length i (p ∷ ps) b e =
      let m = more R C i (function_at img p) (map (function_at img) ps) b e in
      ap length m.table ∙ ap suc (table_length (i + length m.words) ps m.rest m.others)

-- 000: func_offsets.get, by the function's index
targets_else : {A : Type 0} (f : Entry → A) (g : ℕ → A) (a b : Option Entry) (c d : Option ℕ) → mapped f a ≡ mapped g c → mapped f b ≡ mapped g d → mapped f (or_else a b) ≡ mapped g (or_else c d)
unfolding mapped or_else
targets_else f g None b None d e h = h
targets_else f g None b (Some c) d e h = absurd (subst is_none e tt)
  where
    is_none : {A : Type 0} → Option A → Type 0
    is_none None = Unit {0}
    is_none (Some a) = ⊥
targets_else f g (Some a) b None d e h = absurd (subst is_none (sym e) tt)
  where
    is_none : {A : Type 0} → Option A → Type 0
    is_none None = Unit {0}
    is_none (Some a) = ⊥
targets_else f g (Some a) b (Some c) d e h = e

targets_pick : (t : Bool) (e : Entry) (F : List ℕ) (k : ℕ) → get_or F k 0 ≡ e.first → mapped (λ (x : Entry). x.first) (pick t (Some e) None) ≡ mapped (λ (i : ℕ). get_or F i 0) (pick t (Some k) None)
unfolding mapped pick
targets_pick true e F k h = ap Some (sym h)
targets_pick false e F k h = refl

pub targets : (R : Rules) (C : Contract) (x : Name) (F : List ℕ) (i j : ℕ) (fs : List Function) (b : Built) → functions R C i fs ≡ ok b → ((k : ℕ) → k < length fs → get_or F (j + k) 0 ≡ get_or (firsts_of b.table) k 0)
    → mapped (λ (e : Entry). e.first) (last (λ (e : Entry). e.name) x b.table) ≡ mapped (λ (k : ℕ). get_or F k 0) (last_index (λ (f : Function). f.name) j x fs)
unfolding functions last last_index mapped
targets R C x F i j [] b e h = ap (λ (y : Built). mapped (λ (e : Entry). e.first) (last (λ (e : Entry). e.name) x y.table)) (sym (ok_same e))
targets R C x F i j (f ∷ fs) b e h =
    let m = more R C i f fs b e in
    let z : j + 0 ≡ j = omega arith in
    let o : get_or F j 0 ≡ i = ap (λ (y : ℕ). get_or F y 0) (sym z) ∙ h 0 (omega arith) ∙ ap (λ (T : List Entry). get_or (firsts_of T) 0 0) m.table in
    ap (λ (T : List Entry). mapped (λ (e : Entry). e.first) (last (λ (e : Entry). e.name) x T)) m.table
    ∙ targets_else (λ (e : Entry). e.first) (λ (k : ℕ). get_or F k 0) _ _ _ _
    (targets R C x F (i + length m.words) (suc j) fs m.rest m.others (λ k l.
    let y : suc j + k ≡ j + suc k = omega arith in
    ap (λ (u : ℕ). get_or F u 0) y ∙ h (suc k) (omega arith) ∙ ap (λ (T : List Entry). get_or (firsts_of T) (suc k) 0) m.table))
    (targets_pick (eq_name f.name x) _ F j o)
