-- Every word of an accepted program has a number: registers stay below 32, and a tree of k records comes to 65 k words at most. And no word has
-- anything in a field that its opcode does not set (02: P7).
-- Assumes nothing.
use Rattle.std.specs.Prelude.{◌≡◌, refl, Bool, true, false, leb, None, Option, Some}
use Rattle.std.proofs.Common.{sym, ap}
use Rattle.std.proofs.Math.Path.{subst}
use mathlib.Core.List.{List, [], ◌∷◌, ◌++◌, map, reverse, reverse_aux}
use Prim.Native.Nat.{ℕ, zero, suc, ◌+◌, ◌-◌, ◌*◌, ◌/◌, ◌%◌, ◌≤◌, ◌<◌}
use native.Mathlib.Omega.{arith}
use borrow.Author.Tests.{leb-true, leb-false}
use Rattle.std.proofs.Math.ListN.{length, length-append, length-map, length-reverse}
use Rattle.rules.specs.Bytes.{pick, Name}
use Rattle.rules.specs.Tables.{last}
use Rattle.rules.specs.Tree.{Expr, Exprs, Inits, Stmt, Stmts, Field, Function, Contract}
use Rattle.rules.specs.Refusal.{Refusal, Res, known}
use Rattle.rules.specs.Builtins.{Builtin, builtin, main}
use Rattle.rules.specs.Machine.{Imm, Word, Entry, At}
use Rattle.rules.specs.Layout.{offset}
use Rattle.rules.specs.Emit.{Rules, Open, word, calls, push, pop, Scope, find, bind, count, shift_in, parts, branches, loops, Value, AtReg, Values, arg, Done, stores}
use Rattle.rules.specs.Generate.{alloc_reg_lem, slot, result, apply, number, expr, exprs, inits, logs, stmt, stmts, alloc_regs, function}
use Rattle.rules.specs.Link.{Built, Program, functions, less, distance, patch, link, opening, with_main, generate}
use Rattle.bounds.specs.Answers.{All, all_ok, all_bad, all_bind, all_pick, all_test, all_map}
use Rattle.bounds.specs.Held.{Opt, opt_known, opt_pick, last_index_low, each_last}
use Rattle.bounds.specs.Sizes.{nodes, nodes-exprs, nodes-inits, nodes-stmt, nodes-stmts, nodes_function, nodes_functions}
use Rattle.bounds.specs.Numbers.{In32}
use Rattle.bounds.proofs.Fields.{binary_within}
use Rattle.bounds.specs.Ranges.{Emitted, Fine, Fines, Firsts, Free, Frees, Low, Lows, Part, Ranged, Ranges, Settled, Small, WordOf}

-- 000: alloc_reg gives the next register, if it is a free one.
pub alloc_is : (R : Rules) (C : Contract) (p n : ℕ) → All (λ r. (r ≡ n) × (r ≤ R.free)) (alloc_reg_lem R C p n)
unfolding alloc_reg_lem
alloc_is R C p n = all_test (leb n R.free) _ _ (λ t. all_ok n (refl, leb-true n R.free t)) (λ t. all_bad (Refusal.exhausted p))

ranged_append : (l m : List Open) → Ranged l → Ranged m → Ranged (l ++ m)
ranged_append [] m p q = q
ranged_append (o ∷ l) m p q = (p.0, ranged_append l m p.1 q)

-- 000: If, its words and their number.
branches_ranged : (p r : ℕ) (e t : List Open) → r ≤ 31 → length e + 2 < 2147483648 → length t + 1 < 2147483648 → Ranged e → Ranged t → Ranged (branches p r e t)
unfolding branches
branches_ranged p r e t a b c d f = (omega arith, ranged_append e _ d (omega arith, f))

branches_length : (p r : ℕ) (e t : List Open) → length (branches p r e t) ≡ length e + length t + 2
unfolding branches
branches_length p r e t = simp length-append (omega arith)

-- 000: While and For, likewise.
loops_ranged : (p r : ℕ) (c b : List Open) → r ≤ 31 → length c + 2 + length b < 2147483648 → Ranged c → Ranged b → Ranged (loops p r c b)
unfolding loops
loops_ranged p r c b a d e f = ranged_append c _ e (omega arith, (omega arith, ranged_append b _ f (omega arith, tt)))

loops_length : (p r : ℕ) (c b : List Open) → length (loops p r c b) ≡ length c + length b + 3
unfolding loops
loops_length p r c b = simp length-append (omega arith)

-- Registers stay low in any order.
low_aux : (l m : List ℕ) → Low l → Low m → Low (reverse_aux l m)
low_aux [] m p q = q
low_aux (r ∷ l) m p q = low_aux l (r ∷ m) p.1 (p.0, q)

low_count : (a k : ℕ) → a + k ≤ 32 → Low (count a k)
unfolding count
low_count a zero h = tt
low_count a (suc k) h = (omega arith, low_count (suc a) k (omega arith))

count_length : (a k : ℕ) → length (count a k) ≡ k
unfolding count
count_length a zero = refl
count_length a (suc k) = ap suc (count_length (suc a) k)

-- 000: saving and restoring registers.
push_ranged : (p : ℕ) (l : List ℕ) → Low l → Ranged (map (push p) l)
push_ranged p [] h = tt
push_ranged p (r ∷ l) h = (let b : r ≤ 31 = h.0 in omega arith, push_ranged p l h.1)

pop_ranged : (p : ℕ) (l : List ℕ) → Low l → Ranged (map (pop p) l)
pop_ranged p [] h = tt
pop_ranged p (r ∷ l) h = (let b : r ≤ 31 = h.0 in omega arith, pop_ranged p l h.1)

pass_ranged : (p m : ℕ) → m ≤ 30 → (l : List AtReg) → Lows m l → Ranged (map (λ (v : AtReg). push p v.reg) l)
pass_ranged p m f [] h = tt
pass_ranged p m f (v ∷ l) h = (let b : v.reg ≤ m = h.0 in omega arith, pass_ranged p m f l h.1)

arg_low : (m i : ℕ) (l : List AtReg) → Lows m l → (arg i l).reg ≤ m
unfolding arg
arg_low m i [] h = omega arith
arg_low m zero (v ∷ l) h = h.0
arg_low m (suc i) (v ∷ l) h = arg_low m i l h.1

-- 000: StructLiteral, the stores.
stores_ranged : (p q m i : ℕ) (l : List AtReg) → m ≤ 30 → q ≤ m → (i + length l) * 8 < 2147483648 → Lows m l → Ranged (stores p q i l)
unfolding stores
stores_ranged p q m i [] f g b h = tt
stores_ranged p q m i (v ∷ l) f g b h = (let c : v.reg ≤ m = h.0 in omega arith, stores_ranged p q m (suc i) l f g (omega arith) h.1)

stores_length : (p q i : ℕ) (l : List AtReg) → length (stores p q i l) ≡ length l
unfolding stores
stores_length p q i [] = refl
stores_length p q i (v ∷ l) = ap suc (stores_length p q (suc i) l)

-- 000: Int, the words of the parts.
shift_ranged : (p r s t : ℕ) → r ≤ 31 → s ≤ 31 → t ≤ 31 → (l : List ℕ) → Part l → Ranged (shift_in p r s t l)
unfolding shift_in
shift_ranged p r s t a b c [] h = tt
shift_ranged p r s t a b c (zero ∷ l) h = (omega arith, shift_ranged p r s t a b c l h.1)
shift_ranged p r s t a b c (suc x ∷ l) h = (omega arith, (omega arith, (omega arith, shift_ranged p r s t a b c l h.1)))

parts_ranged : (p r s t : ℕ) → r ≤ 31 → s ≤ 31 → t ≤ 31 → (l : List ℕ) → Part l → Ranged (parts p r s t l)
unfolding parts
parts_ranged p r s t a b c [] h = tt
parts_ranged p r s t a b c (zero ∷ l) h = parts_ranged p r s t a b c l h.1
parts_ranged p r s t a b c (suc x ∷ l) h = (omega arith, shift_ranged p r s t a b c l h.1)

-- And their number.
shift_length : (p r s t : ℕ) (l : List ℕ) → length (shift_in p r s t l) ≤ 3 * length l
unfolding shift_in
shift_length p r s t [] = omega arith
shift_length p r s t (zero ∷ l) = omega (arith, shift_length p r s t l)
shift_length p r s t (suc x ∷ l) = omega (arith, shift_length p r s t l)

parts_length : (p r s t : ℕ) (l : List ℕ) → length (parts p r s t l) ≤ 3 * length l
unfolding parts
parts_length p r s t [] = omega arith
parts_length p r s t (zero ∷ l) = omega (arith, parts_length p r s t l)
parts_length p r s t (suc x ∷ l) = omega (arith, shift_length p r s t l)

-- Nor behind any n above m.
pub firsts_up : (m n : ℕ) → m ≤ n → (T : List Entry) → Firsts m T → Firsts n T
firsts_up m n h [] g = tt
firsts_up m n h (e ∷ T) g = (let b : e.first ≤ m = g.0 in omega arith, firsts_up m n h T g.1)

-- 000: a distance within a program of m words.
less_32 : (m t i : ℕ) → m < 2147483648 → t ≤ m → i ≤ m → In32 (less t i)
unfolding less pick
less_32 m t i a b c = by-test (leb i t) refl
  where
    by-test : (x : Bool) → leb i t ≡ x → In32 (pick x (Imm.pos (t - i)) (Imm.neg (i - t)))
    by-test true e = omega arith
    by-test false e = let h : t < i = leb-false i t e in omega arith

distance_32 : (m i : ℕ) (o : Option Entry) → m < 2147483648 → i ≤ m → Opt (λ (e : Entry). e.first ≤ m) o → In32 (distance o i)
unfolding distance
distance_32 m i None a b h = omega arith
distance_32 m i (Some e) a b h = less_32 m e.first i a h b

-- 000: a patched call is such a word.
patch_emitted : (m : ℕ) (T : List Entry) → m < 2147483648 → Firsts m T → (i : ℕ) (o : Open) → i ≤ m → WordOf o → Emitted (patch T i o)
unfolding patch
patch_emitted m T a h i (word p c w) b g = g
patch_emitted m T a h i (calls p f) b g = (record { rd = omega arith; rs1 = omega arith; rs2 = omega arith; imm = distance_32 m i _ a b (each_last _ (λ (e : Entry). e.name) f T h) }, (refl, (refl, (refl, tt))))

link_emitted : (T : List Entry) (m : ℕ) → m < 2147483648 → Firsts m T → (i : ℕ) (l : List Open) → i + length l ≤ m → Ranged l
    → (j : ℕ) (w : Word) → At (link T i l) j w → Emitted w
unfolding link
link_emitted T m a h i [] b g j w p = absurd p
link_emitted T m a h i (o ∷ l) b g zero w p = subst Emitted p (patch_emitted m T a h i o (omega arith) g.0)
link_emitted T m a h i (o ∷ l) b g (suc j) w p = link_emitted T m a h (suc i) l (omega arith) g.1 j w p

-- 000: patching adds no word.
link_length : (T : List Entry) (i : ℕ) (l : List Open) → length (link T i l) ≡ length l
unfolding link
link_length T i [] = refl
link_length T i (o ∷ l) = ap suc (link_length T (suc i) l)

-- 000: main is asked for first.
with_main_all : {A : Type 0} {P : A → Type 0} (o : Option Function) (m : Res A) → All P m → All P (with_main o m)
unfolding with_main
with_main_all None m h = all_bad Refusal.no_main
with_main_all (Some f) m h = h

module _ (R : Rules) (C : Contract) (few : R.free ≤ 30) (slots : length C.storage ≤ 256) (fields : (p : ℕ) (x : Name) → offset C p x ≤ 512) where
  find_free : (x : Name) (s : Scope) → Free R s → Opt (λ r. r ≤ R.free) (find x s)
  unfolding find
  find_free x [] h = tt
  find_free x (l ∷ s) h = opt_pick _ _ _ _ h.0 (find_free x s h.1)

  slot_small : (q : Refusal) (x : Name) → All (λ r. r ≤ 256) (slot R C q x)
  unfolding slot
  slot_small q x = all_map (opt_known (λ r. r < 0 + length C.storage) q _ (last_index_low _ 0 x C.storage)) (λ r h. omega arith)

  result_free : (p n : ℕ) (l r : AtReg) → l.reg ≤ R.free → r.reg ≤ R.free → All (λ d. d ≤ R.free) (result R C p n l r)
  unfolding result
  result_free p n l r c d =
      all_pick (leb n l.reg) _ _ (all_ok _ c) (all_pick (leb l.next r.reg) _ _ (all_ok _ d) (all_map (alloc_is R C p r.next) (λ x q. q.1)))

  -- 000: generate_expr, Int.
  pub number_fine : (p v n : ℕ) → All (λ (x : Value). Fine R 1 n x.code x.reg x.next) (number R C p v n)
  unfolding number
  number_fine p v n = all_test (leb v 2147483647) _ _
      (λ t. all_bind (alloc_reg_lem R C p n) _ (alloc_is R C p n) (λ r q. all_ok _ (let b : v ≤ 2147483647 = leb-true v 2147483647 t in
      record { low = omega arith; high = omega arith; free = q.1; long = omega arith; ranged = (omega arith, tt) })))
      (λ t.
      all_bind (alloc_reg_lem R C p n) _ (alloc_is R C p n) (λ r q.
      all_bind (alloc_reg_lem R C p (suc r)) _ (alloc_is R C p (suc r)) (λ s u.
      all_bind (alloc_reg_lem R C p (suc s)) _ (alloc_is R C p (suc s)) (λ z w.
      all_ok _ (record {
        low = omega arith;
        high = omega arith;
        free = q.1;
        long = omega (arith, parts_length p r s z (v / 1152921504606846976 % 16 ∷ v / 1073741824 % 1073741824 ∷ v % 1073741824 ∷ []));
        ranged = (omega arith, parts_ranged p r s z (omega arith) (omega arith) (omega arith) _ (omega arith));
      })))))

  -- 000: generate_expr, Call, by its arguments.
  pub apply_fine : (p : ℕ) (f : Name) (n k : ℕ) (m : Res Values) (b : Option Builtin) → n ≤ suc R.free → All (λ (a : Values). Fines R k n a) m
      → All (λ (v : Value). Fine R (suc k) n v.code v.reg v.next) (apply R C p f n m b)
  unfolding apply
  apply_fine p f n k m (Some Builtin.poseidon) h e =
      all_bind m _ e (λ a g.
      all_bind (result R C p n _ _) _ (result_free p n _ _ (arg_low _ 0 a.regs g.lows) (arg_low _ 1 a.regs g.lows)) (λ d q.
      all_ok _ (let l : length a.code + length a.regs ≤ 65 * k = g.long in
      let x : (arg 0 a.regs).reg ≤ R.free = arg_low _ 0 a.regs g.lows in
      let y : (arg 1 a.regs).reg ≤ R.free = arg_low _ 1 a.regs g.lows in
      record {
        low = omega arith;
        high = omega arith;
        free = q;
        long = simp length-append (omega arith);
        ranged = ranged_append a.code _ g.ranged (omega arith, tt);
      })))
  apply_fine p f n k m (Some Builtin.sender) h e =
      all_bind (alloc_reg_lem R C p n) _ (alloc_is R C p n) (λ d q. all_ok _ (record { low = omega arith; high = omega arith; free = q.1; long = omega arith; ranged = (omega arith, tt) }))
  apply_fine p f n k m (Some Builtin.nonce) h e =
      all_bind (alloc_reg_lem R C p n) _ (alloc_is R C p n) (λ d q. all_ok _ (record { low = omega arith; high = omega arith; free = q.1; long = omega arith; ranged = (omega arith, tt) }))
  apply_fine p f n k m (Some Builtin.block-number) h e =
      all_bind (alloc_reg_lem R C p n) _ (alloc_is R C p n) (λ d q. all_ok _ (record { low = omega arith; high = omega arith; free = q.1; long = omega arith; ranged = (omega arith, tt) }))
  apply_fine p f n k m (Some Builtin.merkle) h e =
      all_bind m _ e (λ a g.
      all_bind (alloc_reg_lem R C p a.next) _ (alloc_is R C p a.next) (λ d q.
      all_ok _ (let l : length a.code + length a.regs ≤ 65 * k = g.long in
      let i : n ≤ a.next = g.low in
      let x : (arg 0 a.regs).reg ≤ R.free = arg_low _ 0 a.regs g.lows in
      let y : (arg 1 a.regs).reg ≤ R.free = arg_low _ 1 a.regs g.lows in
      let z : (arg 2 a.regs).reg ≤ R.free = arg_low _ 2 a.regs g.lows in
      record {
        low = omega arith;
        high = omega arith;
        free = q.1;
        long = simp length-append (omega arith);
        ranged = ranged_append a.code _ g.ranged (omega arith, tt);
      })))
  apply_fine p f n k m None h e =
      all_bind m _ e (λ a g.
      all_bind (alloc_reg_lem R C p n) _ (alloc_is R C p n) (λ d q.
      all_ok _ (let l : length a.code + length a.regs ≤ 65 * k = g.long in
      record {
        low = omega arith;
        high = omega arith;
        free = q.1;
        long = simp (length-append, length-map, length-reverse, count_length) (omega arith);
        ranged = ranged_append (map (push p) (count 1 (n - 1))) _ (push_ranged p (count 1 (n - 1)) (low_count 1 (n - 1) (omega arith)))
            (ranged_append a.code _ g.ranged
            (ranged_append (map (λ (v : AtReg). push p v.reg) a.regs) _ (pass_ranged p R.free few a.regs g.lows)
            (tt, (omega arith, pop_ranged p (reverse (count 1 (n - 1))) (low_aux (count 1 (n - 1)) [] (low_count 1 (n - 1) (omega arith)) tt)))));
      })))

  mutual
    unfolding expr exprs inits nodes nodes-exprs nodes-inits

    pub expr_fine : (e : Expr) → Small (nodes e) → (s : Scope) → Free R s → (n : ℕ) → n ≤ suc R.free
        → All (λ (v : Value). Fine R (nodes e) n v.code v.reg v.next) (expr R C e s n)
    expr_fine (Expr.no-expr p) w s fs n h = all_ok (record { code = []; reg = 0; next = n }) (record { low = omega arith; high = h; free = omega arith; long = omega arith; ranged = tt })
    expr_fine (Expr.int p v) w s fs n h = number_fine p v n
    expr_fine (Expr.ident p x) w s fs n h =
        all_bind (known (Refusal.unread p x) (find x s)) _ (opt_known _ _ (find x s) (find_free x s fs)) (λ r b.
        all_ok _ (record { low = omega arith; high = h; free = b; long = omega arith; ranged = tt }))
    expr_fine (Expr.storage-read p x) w s fs n h =
        all_bind (alloc_reg_lem R C p n) _ (alloc_is R C p n) (λ r b.
        all_bind (slot R C (Refusal.storage_unread p x) x) _ (slot_small _ x) (λ k c.
        all_ok _ (record { low = omega arith; high = omega arith; free = b.1; long = omega arith; ranged = (omega arith, tt) })))
    expr_fine (Expr.mapping-read p x e) w s fs n h =
        all_bind (slot R C (Refusal.mapping_unread p x) x) _ (slot_small _ x) (λ k c.
        all_bind (expr R C e s n) _ (expr_fine e (omega arith) s fs n h) (λ v g.
        all_bind (alloc_reg_lem R C p v.next) _ (alloc_is R C p v.next) (λ b i.
        all_bind (alloc_reg_lem R C p (suc b)) _ (alloc_is R C p (suc b)) (λ u j.
        all_bind (alloc_reg_lem R C p (suc u)) _ (alloc_is R C p (suc u)) (λ r l.
        all_ok _ (let low : n ≤ v.next = g.low in let free : v.reg ≤ R.free = g.free in let long : length v.code + 1 ≤ 65 * nodes e = g.long in
        record {
          low = omega arith;
          high = omega arith;
          free = l.1;
          long = simp length-append (omega arith);
          ranged = ranged_append v.code _ g.ranged (omega arith, (omega arith, (omega arith, tt)));
        }))))))
    expr_fine (Expr.field-access p e x) w s fs n h =
        all_bind (expr R C e s n) _ (expr_fine e (omega arith) s fs n h) (λ v g.
        all_bind (alloc_reg_lem R C p v.next) _ (alloc_is R C p v.next) (λ r i.
        all_ok _ (let low : n ≤ v.next = g.low in let free : v.reg ≤ R.free = g.free in let long : length v.code + 1 ≤ 65 * nodes e = g.long in
        let far : offset C p x ≤ 512 = fields p x in
        record {
          low = omega arith;
          high = omega arith;
          free = i.1;
          long = simp length-append (omega arith);
          ranged = ranged_append v.code _ g.ranged (omega arith, tt);
        })))
    expr_fine (Expr.literal p x is) w s fs n h =
        all_bind (alloc_reg_lem R C p n) _ (alloc_is R C p n) (λ d b.
        all_bind (inits R C is s (suc d)) _ (inits_fine is (omega arith) s fs (suc d) (omega arith)) (λ a g.
        all_bind (alloc_reg_lem R C p a.next) _ (alloc_is R C p a.next) (λ z c.
        all_bind (alloc_reg_lem R C p n) _ (alloc_is R C p n) (λ r i.
        all_ok _ (let long : length a.code + length a.regs ≤ 65 * nodes-inits is = g.long in
        record {
          low = omega arith;
          high = omega arith;
          free = i.1;
          long = simp (length-append, stores_length) (omega arith);
          ranged = (
            omega arith,
            ranged_append a.code _ g.ranged
                (ranged_append (stores p d 0 a.regs) _ (stores_ranged p d R.free 0 a.regs few b.1 (omega arith) g.lows) (omega arith, (omega arith, (omega arith, tt)))),
          );
        })))))
    expr_fine (Expr.binary p a o b) w s fs n h =
        all_bind (expr R C a s n) _ (expr_fine a (omega arith) s fs n h) (λ l g.
        all_bind (expr R C b s l.next) _ (expr_fine b (omega arith) s fs l.next g.high) (λ r i.
        all_bind (result R C p n _ _) _ (result_free p n _ _ g.free i.free) (λ d j.
        all_ok _ (let f₁ : l.reg ≤ R.free = g.free in let f₂ : r.reg ≤ R.free = i.free in
        let l₁ : length l.code + 1 ≤ 65 * nodes a = g.long in let l₂ : length r.code + 1 ≤ 65 * nodes b = i.long in
        record {
          low = omega arith;
          high = omega arith;
          free = j;
          long = simp length-append (omega arith);
          ranged = ranged_append l.code _ g.ranged (ranged_append r.code _ i.ranged ((omega arith, binary_within o d l.reg r.reg), tt));
        }))))
    expr_fine (Expr.call p f es) w s fs n h =
        apply_fine p f n (nodes-exprs es) (exprs R C es s n) (builtin f) h (exprs_fine es (omega arith) s fs n h)

    pub exprs_fine : (es : Exprs) → Small (nodes-exprs es) → (s : Scope) → Free R s → (n : ℕ) → n ≤ suc R.free
        → All (λ (v : Values). Fines R (nodes-exprs es) n v) (exprs R C es s n)
    exprs_fine Exprs.none w s fs n h = all_ok (record { code = []; regs = []; next = n }) (record { low = omega arith; high = h; long = omega arith; ranged = tt; lows = tt })
    exprs_fine (Exprs.more e es) w s fs n h =
        all_bind (expr R C e s n) _ (expr_fine e (omega arith) s fs n h) (λ v g.
        all_bind (exprs R C es s v.next) _ (exprs_fine es (omega arith) s fs v.next g.high) (λ vs i.
        all_ok _ (let l₁ : length v.code + 1 ≤ 65 * nodes e = g.long in let l₂ : length vs.code + length vs.regs ≤ 65 * nodes-exprs es = i.long in
        let low₁ : n ≤ v.next = g.low in let low₂ : v.next ≤ vs.next = i.low in
        record {
          low = omega arith;
          high = i.high;
          long = simp length-append (omega arith);
          ranged = ranged_append v.code _ g.ranged i.ranged;
          lows = (g.free, i.lows);
        })))

    pub inits_fine : (is : Inits) → Small (nodes-inits is) → (s : Scope) → Free R s → (n : ℕ) → n ≤ suc R.free
        → All (λ (v : Values). Fines R (nodes-inits is) n v) (inits R C is s n)
    inits_fine Inits.no-init w s fs n h = all_ok (record { code = []; regs = []; next = n }) (record { low = omega arith; high = h; long = omega arith; ranged = tt; lows = tt })
    inits_fine (Inits.init p x e is) w s fs n h =
        all_bind (expr R C e s n) _ (expr_fine e (omega arith) s fs n h) (λ v g.
        all_bind (inits R C is s v.next) _ (inits_fine is (omega arith) s fs v.next g.high) (λ vs i.
        all_ok _ (let l₁ : length v.code + 1 ≤ 65 * nodes e = g.long in let l₂ : length vs.code + length vs.regs ≤ 65 * nodes-inits is = i.long in
        let low₁ : n ≤ v.next = g.low in let low₂ : v.next ≤ vs.next = i.low in
        record {
          low = omega arith;
          high = i.high;
          long = simp length-append (omega arith);
          ranged = ranged_append v.code _ g.ranged i.ranged;
          lows = (g.free, i.lows);
        })))

  -- 000: generate_stmt, Emit.
  pub logs_fine : (p : ℕ) (es : Exprs) → Small (nodes-exprs es) → (s : Scope) → Free R s → (n : ℕ) → n ≤ suc R.free
      → All (λ (l : List Open). (length l ≤ 65 * nodes-exprs es) × Ranged l) (logs R C p es s n)
  unfolding logs nodes-exprs
  logs_fine p Exprs.none w s fs n h = all_ok [] (omega arith, tt)
  logs_fine p (Exprs.more e es) w s fs n h =
      all_bind (expr R C e s n) _ (expr_fine e (omega arith) s fs n h) (λ v g.
      all_bind (logs R C p es s v.next) _ (logs_fine p es (omega arith) s fs v.next g.high) (λ l i.
      all_ok _ (let l₁ : length v.code + 1 ≤ 65 * nodes e = g.long in let f : v.reg ≤ R.free = g.free in
      (simp length-append (omega arith), ranged_append v.code _ g.ranged (omega arith, i.1)))))

  -- One word after an expression's, and the registers as before
  then_one : (k n reg next : ℕ) (code : List Open) (o : Open) (s : Scope) → n ≤ suc R.free → Free R s → Fine R k n code reg next → WordOf o
      → Settled R (suc k) n (record { code = code ++ (o ∷ []); next = n; scope = s })
  then_one k n reg next code o s h fs g w = let l : length code + 1 ≤ 65 * k = g.long in
      record { low = omega arith; high = h; long = simp length-append (omega arith); ranged = ranged_append code _ g.ranged (w, tt); scope = fs }

  mutual
    unfolding stmt stmts nodes-stmt nodes-stmts

    pub stmt_fine : (x : Stmt) → Small (nodes-stmt x) → (s : Scope) → Free R s → (n : ℕ) → n ≤ suc R.free
        → All (λ (d : Done). Settled R (nodes-stmt x) n d) (stmt R C x s n)
    stmt_fine (Stmt.no-stmt p) w s fs n h = all_ok (record { code = []; next = n; scope = s }) (record { low = omega arith; high = h; long = omega arith; scope = fs; ranged = tt })
    stmt_fine (Stmt.let-in p x e) w s fs n h =
        all_bind (expr R C e s n) _ (expr_fine e (omega arith) s fs n h) (λ v g.
        let l : length v.code + 1 ≤ 65 * nodes e = g.long in let f : v.reg ≤ R.free = g.free in let i : n ≤ v.next = g.low in
        all_test (leb n v.reg) _ _
        (λ b. let c : n ≤ v.reg = leb-true n v.reg b in
        all_ok _ (record { low = omega arith; high = omega arith; long = omega arith; ranged = g.ranged; scope = (f, fs) }))
        (λ b. all_pick _ _ _
        (all_bind (alloc_reg_lem R C p v.next) _ (alloc_is R C p v.next) (λ r j.
        all_ok _ (record { low = omega arith; high = omega arith; long = simp length-append (omega arith); ranged = ranged_append v.code _ g.ranged (omega arith, tt); scope = (j.1, fs) })))
        (all_ok _ (record { low = omega arith; high = h; long = omega arith; ranged = g.ranged; scope = (f, fs) }))))
    stmt_fine (Stmt.constrain p e) w s fs n h =
        all_bind (expr R C e s n) _ (expr_fine e (omega arith) s fs n h) (λ v g.
        all_ok _ (then_one (nodes e) n v.reg v.next v.code _ s h fs g (omega (arith, g.free))))
    stmt_fine (Stmt.assign p x e) w s fs n h =
        all_bind (expr R C e s n) _ (expr_fine e (omega arith) s fs n h) (λ v g.
        all_bind (known (Refusal.unassigned p x) (find x s)) _ (opt_known _ _ (find x s) (find_free x s fs)) (λ r b.
        all_ok _ (then_one (nodes e) n v.reg v.next v.code _ s h fs g (omega (arith, g.free)))))
    stmt_fine (Stmt.storage-write p x e) w s fs n h =
        all_bind (expr R C e s n) _ (expr_fine e (omega arith) s fs n h) (λ v g.
        all_bind (slot R C (Refusal.storage_unwritten p x) x) _ (slot_small _ x) (λ k b.
        all_ok _ (then_one (nodes e) n v.reg v.next v.code _ s h fs g (omega (arith, g.free)))))
    stmt_fine (Stmt.mapping-write p x e f) w s fs n h =
        all_bind (slot R C (Refusal.mapping_unwritten p x) x) _ (slot_small _ x) (λ k b.
        all_bind (expr R C e s n) _ (expr_fine e (omega arith) s fs n h) (λ v g.
        all_bind (expr R C f s v.next) _ (expr_fine f (omega arith) s fs v.next g.high) (λ u i.
        all_bind (alloc_reg_lem R C p u.next) _ (alloc_is R C p u.next) (λ a c.
        all_bind (alloc_reg_lem R C p (suc a)) _ (alloc_is R C p (suc a)) (λ z d.
        all_ok _ (let l₁ : length v.code + 1 ≤ 65 * nodes e = g.long in let l₂ : length u.code + 1 ≤ 65 * nodes f = i.long in
        let f₁ : v.reg ≤ R.free = g.free in let f₂ : u.reg ≤ R.free = i.free in
        record {
          low = omega arith;
          high = h;
          long = simp length-append (omega arith);
          scope = fs;
          ranged = ranged_append v.code _ g.ranged (ranged_append u.code _ i.ranged (omega arith, (omega arith, (omega arith, tt))));
        }))))))
    stmt_fine (Stmt.if-else p c y e) w s fs n h =
        all_bind (expr R C c s n) _ (expr_fine c (omega arith) s fs n h) (λ v g.
        all_bind (stmts R C e s n) _ (stmts_fine e (omega arith) s fs n h) (λ a i.
        all_bind (stmts R C y a.scope a.next) _ (stmts_fine y (omega arith) a.scope i.scope a.next i.high) (λ b j.
        all_ok _ (let l₁ : length v.code + 1 ≤ 65 * nodes c = g.long in let l₂ : length a.code ≤ 65 * nodes-stmts e = i.long in let l₃ : length b.code ≤ 65 * nodes-stmts y = j.long in
        record {
          low = omega (arith, i.low, j.low);
          high = j.high;
          long = simp (length-append, branches_length) (omega arith);
          scope = j.scope;
          ranged = ranged_append v.code _ g.ranged (branches_ranged p v.reg a.code b.code (omega (arith, g.free)) (omega arith) (omega arith) i.ranged j.ranged);
        }))))
    stmt_fine (Stmt.while p c b) w s fs n h =
        all_bind (expr R C c s n) _ (expr_fine c (omega arith) s fs n h) (λ v g.
        all_bind (stmts R C b s n) _ (stmts_fine b (omega arith) s fs n h) (λ d i.
        all_ok _ (let l₁ : length v.code + 1 ≤ 65 * nodes c = g.long in let l₂ : length d.code ≤ 65 * nodes-stmts b = i.long in
        record {
          low = i.low;
          high = i.high;
          long = simp loops_length (omega arith);
          scope = i.scope;
          ranged = loops_ranged p v.reg v.code d.code (omega (arith, g.free)) (omega arith) g.ranged i.ranged;
        })))
    stmt_fine (Stmt.for p x e f b) w s fs n h =
        all_bind (expr R C e s n) _ (expr_fine e (omega arith) s fs n h) (λ v g.
        all_bind (expr R C f s v.next) _ (expr_fine f (omega arith) s fs v.next g.high) (λ u i.
        all_bind (alloc_reg_lem R C p u.next) _ (alloc_is R C p u.next) (λ k c.
        all_bind (alloc_reg_lem R C p (suc k)) _ (alloc_is R C p (suc k)) (λ z j.
        all_bind (stmts R C b _ (suc k)) _ (stmts_fine b (omega arith) _ (c.1, fs) (suc k) (omega arith)) (λ d m.
        all_bind (alloc_reg_lem R C p d.next) _ (alloc_is R C p d.next) (λ o r.
        all_ok _ (let l₁ : length v.code + 1 ≤ 65 * nodes e = g.long in let l₂ : length u.code + 1 ≤ 65 * nodes f = i.long in let l₃ : length d.code ≤ 65 * nodes-stmts b = m.long in
        let f₁ : v.reg ≤ R.free = g.free in let f₂ : u.reg ≤ R.free = i.free in
        record {
          low = omega arith;
          high = h;
          long = simp (length-append, loops_length) (omega arith);
          scope = fs;
          ranged = ranged_append v.code _ g.ranged (ranged_append u.code _ i.ranged (
            omega arith,
            loops_ranged p z _ _ (omega arith) (simp length-append (omega arith)) (omega arith, tt) (ranged_append d.code _ m.ranged (omega arith, (omega arith, tt))),
          ));
        })))))))
    stmt_fine (Stmt.return p e) w s fs n h =
        all_bind (alloc_reg_lem R C p n) _ (alloc_is R C p n) (λ z b.
        all_bind (expr R C e s (suc z)) _ (expr_fine e (omega arith) s fs (suc z) (omega arith)) (λ v g.
        all_ok _ (let l₁ : length v.code + 1 ≤ 65 * nodes e = g.long in let f₁ : v.reg ≤ R.free = g.free in
        record {
          low = omega arith;
          high = h;
          long = simp length-append (omega arith);
          scope = fs;
          ranged = (omega arith, ranged_append v.code _ g.ranged (omega arith, (omega arith, (omega arith, tt))));
        })))
    stmt_fine (Stmt.return-none p) w s fs n h =
        all_bind (alloc_reg_lem R C p n) _ (alloc_is R C p n) (λ z b.
        all_bind (alloc_reg_lem R C p (suc z)) _ (alloc_is R C p (suc z)) (λ y c.
        all_ok _ (record { low = omega arith; high = h; long = omega arith; scope = fs; ranged = (omega arith, (omega arith, (omega arith, (omega arith, (omega arith, tt))))) })))
    stmt_fine (Stmt.emits p x es) w s fs n h =
        all_bind (logs R C p es s n) _ (logs_fine p es (omega arith) s fs n h) (λ l g.
        all_ok _ (record { low = omega arith; high = h; long = omega (arith, g.0); scope = fs; ranged = g.1 }))
    stmt_fine (Stmt.just p e) w s fs n h =
        all_bind (expr R C e s n) _ (expr_fine e (omega arith) s fs n h) (λ v g.
        all_ok _ (record { low = omega arith; high = h; long = omega (arith, g.long); scope = fs; ranged = g.ranged }))

    pub stmts_fine : (xs : Stmts) → Small (nodes-stmts xs) → (s : Scope) → Free R s → (n : ℕ) → n ≤ suc R.free
        → All (λ (d : Done). Settled R (nodes-stmts xs) n d) (stmts R C xs s n)
    stmts_fine Stmts.none w s fs n h = all_ok (record { code = []; next = n; scope = s }) (record { low = omega arith; high = h; long = omega arith; scope = fs; ranged = tt })
    stmts_fine (Stmts.more x xs) w s fs n h =
        all_bind (stmt R C x s n) _ (stmt_fine x (omega arith) s fs n h) (λ d g.
        all_bind (stmts R C xs d.scope d.next) _ (stmts_fine xs (omega arith) d.scope g.scope d.next g.high) (λ e i.
        all_ok _ (let l₁ : length d.code ≤ 65 * nodes-stmt x = g.long in let l₂ : length e.code ≤ 65 * nodes-stmts xs = i.long in
        record { low = omega (arith, g.low, i.low); high = i.high; long = simp length-append (omega arith); scope = i.scope; ranged = ranged_append d.code _ g.ranged i.ranged })))

  frees_low : (l : List ℕ) → Frees R l → Low l
  frees_low [] h = tt
  frees_low (r ∷ l) h = (let b : r ≤ R.free = h.0 in omega arith, frees_low l h.1)

  bind_free : (xs : List Field) (rs : List ℕ) (s : Scope) → Frees R rs → Free R s → Free R (bind xs rs s)
  unfolding bind
  bind_free [] rs s h g = g
  bind_free (x ∷ xs) [] s h g = g
  bind_free (x ∷ xs) (r ∷ rs) s h g = bind_free xs rs (record { name = x.name; reg = r } ∷ s) h.1 (h.0, g)

  alloc_regs_free : (p : ℕ) (xs : List Field) (n : ℕ) → n ≤ suc R.free → All (λ (rs : List ℕ). (length rs ≡ length xs) × (n + length rs ≤ suc R.free) × Frees R rs) (alloc_regs R C p xs n)
  unfolding alloc_regs
  alloc_regs_free p [] n h = all_ok [] (refl, omega arith, tt)
  alloc_regs_free p (x ∷ xs) n h =
      all_bind (alloc_reg_lem R C p n) _ (alloc_is R C p n) (λ r q.
      all_bind (alloc_regs R C p xs (suc r)) _ (alloc_regs_free p xs (suc r) (omega arith)) (λ rs g.
      all_ok _ (ap suc g.0, omega (arith, g.1), (q.1, g.2))))

  -- 000: generate_function.
  pub function_fine : (f : Function) → Small (nodes_function f)
      → All (λ (c : List Open). (length c ≤ 65 * (nodes_function f)) × Ranged c) (function R C f)
  unfolding function nodes_function
  function_fine f w =
      all_bind (alloc_reg_lem R C f.place 1) _ (alloc_is R C f.place 1) (λ a b.
      all_bind (alloc_regs R C f.place f.params (suc a)) _ (alloc_regs_free f.place f.params (suc a) (omega arith)) (λ rs g.
      all_bind (stmts R C f.body _ _) _ (stmts_fine f.body (omega arith) _ (bind_free f.params rs [] g.2 tt) (suc a + length rs) g.1) (λ d i.
      all_bind (alloc_reg_lem R C f.place d.next) _ (alloc_is R C f.place d.next) (λ z j.
      all_bind (alloc_reg_lem R C f.place (suc z)) _ (alloc_is R C f.place (suc z)) (λ y k.
      all_ok _ (let l₁ : length d.code ≤ 65 * nodes-stmts f.body = i.long in let l₂ : length rs ≡ length f.params = g.0 in (
        simp (length-append, length-map, length-reverse) (omega arith),
        (
          omega arith,
          ranged_append (map (pop f.place) (reverse rs)) _ (pop_ranged f.place (reverse rs) (low_aux rs [] (frees_low rs g.2) tt))
              (omega arith, ranged_append d.code _ i.ranged (omega arith, (omega arith, (omega arith, (omega arith, (omega arith, tt)))))),
        ),
      )))))))

  -- 000: generate, the loop over the functions.
  pub functions_fine : (i : ℕ) (fs : List Function) → Small (nodes_functions fs)
      → All (λ (b : Built). (length b.code ≤ 65 * nodes_functions fs) × Ranged b.code × Firsts (i + 65 * nodes_functions fs) b.table) (functions R C i fs)
  unfolding functions nodes_functions nodes_function
  functions_fine i [] w = all_ok (record { code = []; table = [] }) (omega arith, tt, tt)
  functions_fine i (f ∷ fs) w =
      all_bind (function R C f) _ (function_fine f (omega arith)) (λ c g.
      all_bind (functions R C (i + length c) fs) _ (functions_fine (i + length c) fs (omega arith)) (λ r h.
      all_ok _ (let l₁ : length c ≤ 65 * (nodes_function f) = g.0 in let l₂ : length r.code ≤ 65 * nodes_functions fs = h.0 in
      (simp length-append (omega arith), ranged_append c _ g.1 h.1, (omega arith, firsts_up _ _ (omega arith) r.table h.2)))))

  -- Every word of the program has a number.
  pub program_fine : Small (nodes_functions C.functions) → All (λ (P : Program). Ranges (nodes_functions C.functions) P) (generate R C)
  unfolding generate opening
  program_fine z = with_main_all (last (λ (f : Function). f.name) main C.functions) _
      (all_bind (functions R C 3 C.functions) _ (functions_fine 3 C.functions z) (λ b g.
      all_ok _ (record {
        long = subst (λ m. m ≤ 3 + 65 * nodes_functions C.functions) (sym (link_length b.table 0 (opening R ++ b.code))) (omega (arith, g.0));
        emitted = λ i w a. link_emitted b.table 268430003 (omega arith) (firsts_up _ _ (omega arith) b.table g.2) 0 (opening R ++ b.code)
            (omega (arith, g.0)) (omega arith, (tt, (omega arith, g.1))) i w a;
      })))
