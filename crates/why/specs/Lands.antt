-- The open words of a checked image's program: none has its record past the image, and each patched one leads to its target (02: P5).
--     Good         of an open word: its mark is in the image; if it is patched, its offset leads ahead
--     marked_good  each word of `marked` is good
--     lands        of each patched word, jump or call, index and offset come to its target
-- Assumes nothing.
use Rattle.std.proofs.lemmas.Option.{none-some}
use Rattle.std.specs.Prelude.{◌≡◌, refl, Bool, true, false, ℕ, zero, suc, ◌+◌, ◌-◌, ◌≤◌, leb, None, Option, Some}
use mathlib.Core.List.{List, [], ◌∷◌, ◌++◌, reverse}
use Rattle.std.proofs.Common.{arith, leb-true, leb-false}
use Rattle.std.proofs.Math.ListN.{length}
use Rattle.rules.specs.Seen.{Sound}
use Rattle.rules.specs.Bytes.{pick, Name}
use Rattle.rules.specs.Check.{check_of}
use Rattle.rules.specs.Read.{contract_at}
use Rattle.rules.specs.Tables.{last, mapped, nth}
use Rattle.rules.specs.Tree.{Expr, Exprs, Inits, Stmt, Stmts, Function, Contract}
use Rattle.rules.specs.Refusal.{Res, ok, ◌>>=◌}
use Rattle.rules.specs.Builtins.{Builtin, main}
use Rattle.rules.specs.Machine.{Imm, Word, Entry, Lands}
use Rattle.rules.specs.Emit.{Rules, Open, word, calls, Scope, shift_in, parts, branches, loops, Value, AtReg, Values, Done, stores, push, pop, count}
use Rattle.rules.specs.Generate.{apply, number, expr, exprs, inits, logs, stmt, stmts, function}
use Rattle.rules.specs.Link.{Built, functions, less, distance, patch, link, opening, with_main}
use Rattle.rules.specs.Why.{mark_of, landing, target_of, marked}
use Rattle.bounds.specs.Answers.{All, all_ok, all_bad, from_ok, all_bind, all_next, all_pick}
use Rattle.bounds.specs.Held.{Each, each_map}
use Rattle.bounds.specs.Whole.{Here, Whole, WholeExprs, WholeInits, WholeStmt, WholeStmts, WholeFunction}
use Rattle.bounds.proofs.ContractOf.{all_whole}

-- An offset that leads ahead.
abbrev Onward : Imm → Type 0
Onward (Imm.pos d) = Unit {0}
Onward (Imm.neg d) = ⊥

-- Of a patched word the offset does.
abbrev Ahead : Open → Type 0
Ahead (word p true w) = Onward w.imm
Ahead (word p false w) = Unit {0}
Ahead (calls p f) = Unit {0}

-- And the record of any word stands in the image (the Contract's at 0).
abbrev pub Good : List ℕ → Open → Type 0
Good img o = (mark_of o ≤ length img) × Ahead o

module _ (img : List ℕ) where
  -- Each of a list.
  abbrev Goods : List Open → Type 0
  Goods l = Each (Good img) l

  joined : (l m : List Open) → Goods l → Goods m → Goods (l ++ m)
  joined [] m h g = g
  joined (o ∷ l) m h g = (h.0, joined l m h.1 g)

  -- A record's place.
  here : (p : ℕ) → Here img p → p ≤ length img
  here p h = omega arith

  -- The shapes of Emit.
  stored : (p q i : ℕ) (l : List AtReg) → p ≤ length img → Goods (stores p q i l)
  unfolding stores mark_of
  stored p q i [] k = tt
  stored p q i (v ∷ l) k = ((k, tt), stored p q (suc i) l k)

  shifted : (p r s t : ℕ) (l : List ℕ) → p ≤ length img → Goods (shift_in p r s t l)
  unfolding shift_in mark_of
  shifted p r s t [] k = tt
  shifted p r s t (zero ∷ l) k = ((k, tt), shifted p r s t l k)
  shifted p r s t (suc c ∷ l) k = ((k, tt), ((k, tt), ((k, tt), shifted p r s t l k)))

  parted : (p r s t : ℕ) (l : List ℕ) → p ≤ length img → Goods (parts p r s t l)
  unfolding parts mark_of
  parted p r s t [] k = tt
  parted p r s t (zero ∷ l) k = parted p r s t l k
  parted p r s t (suc c ∷ l) k = ((k, tt), shifted p r s t l k)

  branched : (p r : ℕ) (e t : List Open) → p ≤ length img → Goods e → Goods t → Goods (branches p r e t)
  unfolding branches mark_of
  branched p r e t k h g = ((k, tt), joined e _ h ((k, tt), g))

  looped : (p r : ℕ) (c b : List Open) → p ≤ length img → Goods c → Goods b → Goods (loops p r c b)
  unfolding loops mark_of
  looped p r c b k h g = joined c _ h ((k, tt), ((k, tt), joined b _ g ((k, tt), tt)))

  -- An answer with such words.
  abbrev Fine : {A : Type 0} → (A → List Open) → Res A → Type 0
  Fine code m = All (λ a. Goods (code a)) m

  -- One that is asked for with a scope and the next free register.
  abbrev Fines : {A : Type 0} → (A → List Open) → (Scope → ℕ → Res A) → Type 0
  Fines code m = (s : Scope) (n : ℕ) → Fine code (m s n)

  -- The steps of Generate, by what an answer is.
  module _ {B : Type 0} {Q : B → Type 0} where
    then_reg : (m : Res ℕ) (f : ℕ → Res B) → ((r : ℕ) → All Q (f r)) → All Q (m >>= f)
    then_reg m f k = all_next m f k

    then_value : (m : Res Value) (f : Value → Res B) → Fine (λ v. v.code) m → ((v : Value) → Goods v.code → All Q (f v)) → All Q (m >>= f)
    then_value m f h k = all_bind m f h k

    then_values : (m : Res Values) (f : Values → Res B) → Fine (λ v. v.code) m → ((v : Values) → Goods v.code → All Q (f v)) → All Q (m >>= f)
    then_values m f h k = all_bind m f h k

    then_done : (m : Res Done) (f : Done → Res B) → Fine (λ d. d.code) m → ((d : Done) → Goods d.code → All Q (f d)) → All Q (m >>= f)
    then_done m f h k = all_bind m f h k

    then_words : (m : Res (List Open)) (f : List Open → Res B) → Fine (λ l. l) m → ((l : List Open) → Goods l → All Q (f l)) → All Q (m >>= f)
    then_words m f h k = all_bind m f h k

  ruleset steps = (all_ok, all_pick, then_reg, then_value, then_values, then_done, then_words, joined, each_map, here, stored, parted, branched, looped)

  -- All that Generate emits.
  module _ (R : Rules) (C : Contract) where
    number_good : (p v n : ℕ) → p ≤ length img → Fine (λ (x : Value). x.code) (number R C p v n)
    unfolding number mark_of
    number_good p v n k = search steps depth 16

    apply_good : (p : ℕ) (f : Name) (n : ℕ) (m : Res Values) (b : Option Builtin) → p ≤ length img → Fine (λ (a : Values). a.code) m → Fine (λ (v : Value). v.code) (apply R C p f n m b)
    unfolding apply mark_of
    apply_good p f n m (Some Builtin.poseidon) k h = search steps depth 16
    apply_good p f n m (Some Builtin.sender) k h = search steps depth 16
    apply_good p f n m (Some Builtin.nonce) k h = search steps depth 16
    apply_good p f n m (Some Builtin.block-number) k h = search steps depth 16
    apply_good p f n m (Some Builtin.merkle) k h = search steps depth 16
    apply_good p f n m None k h = then_values m _ h (λ a g. then_reg _ _ (λ d. all_ok _
        (joined _ _ (each_map _ (push p) (count 1 (n - 1)) (λ x. (k, tt)))
        (joined a.code _ g (joined _ _ (each_map _ (λ (v : AtReg). push p v.reg) a.regs (λ x. (k, tt)))
        ((k, tt), ((k, tt), each_map _ (pop p) (reverse (count 1 (n - 1))) (λ x. (k, tt)))))))))

    mutual
      unfolding expr exprs inits Whole WholeExprs WholeInits mark_of

      expr_good : (e : Expr) → Whole img e → Fines (λ (v : Value). v.code) (expr R C e)
      expr_good (Expr.no-expr p) h = absurd h
      expr_good (Expr.int p v) h = search (here, number_good)
      expr_good (Expr.ident p x) h = search steps
      expr_good (Expr.storage-read p x) h = search steps depth 16
      expr_good (Expr.mapping-read p x e) h = search (steps, expr_good e h.1) depth 16
      expr_good (Expr.field-access p e x) h = search (steps, expr_good e h.1) depth 16
      expr_good (Expr.literal p x is) h = search (steps, inits_good is h.2) depth 16
      expr_good (Expr.binary p a o b) h = search (steps, expr_good a h.1, expr_good b h.2) depth 16
      expr_good (Expr.call p f es) h = search (here, apply_good, exprs_good es h.2)

      exprs_good : (es : Exprs) → WholeExprs img es → Fines (λ (v : Values). v.code) (exprs R C es)
      exprs_good Exprs.none h = search steps
      exprs_good (Exprs.more e es) h = search (steps, expr_good e h.0, exprs_good es h.1)

      inits_good : (is : Inits) → WholeInits img is → Fines (λ (v : Values). v.code) (inits R C is)
      inits_good Inits.no-init h = search steps
      inits_good (Inits.init q x e is) h = search (steps, expr_good e h.1, inits_good is h.2)

    logs_good : (p : ℕ) (es : Exprs) → p ≤ length img → WholeExprs img es → Fines (λ l. l) (logs R C p es)
    unfolding logs WholeExprs mark_of
    logs_good p Exprs.none k h = search steps
    logs_good p (Exprs.more e es) k h = search (steps, expr_good e h.0, logs_good p es k h.1) depth 16

    mutual
      unfolding stmt stmts WholeStmt WholeStmts mark_of

      stmt_good : (x : Stmt) → WholeStmt img x → Fines (λ (d : Done). d.code) (stmt R C x)
      stmt_good (Stmt.no-stmt p) h = absurd h
      stmt_good (Stmt.let-in p x e) h = search (steps, expr_good e h.1) depth 16
      stmt_good (Stmt.constrain p e) h = search (steps, expr_good e h.1) depth 16
      stmt_good (Stmt.assign p x e) h = search (steps, expr_good e h.1) depth 16
      stmt_good (Stmt.storage-write p x e) h = search (steps, expr_good e h.1) depth 16
      stmt_good (Stmt.mapping-write p x e f) h = search (steps, expr_good e h.1, expr_good f h.2) depth 16
      stmt_good (Stmt.if-else p c t e) h = search (steps, expr_good c h.1, stmts_good e h.5, stmts_good t h.3) depth 16
      stmt_good (Stmt.while p c b) h = search (steps, expr_good c h.1, stmts_good b h.3)
      stmt_good (Stmt.for p x e f b) h = search (steps, expr_good e h.1, expr_good f h.2, stmts_good b h.4) depth 16
      stmt_good (Stmt.return p e) h = search (steps, expr_good e h.1) depth 16
      stmt_good (Stmt.return-none p) h = search steps depth 16
      stmt_good (Stmt.emits p x es) h = search (steps, logs_good p es (here p h.0) h.2)
      stmt_good (Stmt.just p e) h = search (steps, expr_good e h.1)

      stmts_good : (xs : Stmts) → WholeStmts img xs → Fines (λ (d : Done). d.code) (stmts R C xs)
      stmts_good Stmts.none h = search steps
      stmts_good (Stmts.more x xs) h = search (steps, stmt_good x h.0, stmts_good xs h.1)

    function_good : (f : Function) → WholeFunction img f → Fine (λ l. l) (function R C f)
    unfolding function mark_of
    function_good f h = all_next _ _ (λ a. all_next _ _ (λ rs. search (steps, stmts_good f.body h.stmts) depth 16))

    functions_good : (i : ℕ) (fs : List Function) → Each (λ (f : Function). WholeFunction img f) fs → All (λ (b : Built). Goods b.code) (functions R C i fs)
    unfolding functions
    functions_good i [] h = search steps
    functions_good i (f ∷ fs) h = all_bind _ _ (function_good f h.0) (λ c u. all_bind _ _ (functions_good (i + length c) fs h.1) (λ r w. all_ok _ (joined c _ u w)))

pub marked_good : (R : Rules) (img : List ℕ) (q m : ℕ) → check_of img ≡ Sound q m → All (λ (b : Built). Each (Good img) b.code) (marked R (contract_at img))
unfolding marked with_main opening mark_of
marked_good R img q m e = with (last (λ (f : Function). f.name) main (contract_at img).functions)
    (all_bind _ _ (functions_good img R (contract_at img) 3 (contract_at img).functions (all_whole img q m e)) (λ b h. all_ok _ ((omega arith, tt), ((omega arith, tt), ((omega arith, tt), h)))))
  where
    with : {P : Built → Type 0} {m : Res Built} (o : Option Function) → All P m → All P (with_main o m)
    with None h = all_bad _
    with (Some f) h = h

-- 000: patch_jump: a target less an own index leads there; so does an offset ahead, and a call's distance.
less_lands : (i t : ℕ) → Lands i (less t i) t
unfolding less pick
less_lands i t = go (leb i t) refl
  where
    go : (b : Bool) → leb i t ≡ b → Lands i (pick b (Imm.pos (t - i)) (Imm.neg (i - t))) t
    go true e = omega (arith, leb-true i t e)
    go false e = omega (arith, leb-false i t e)

onward_lands : (i t : ℕ) (d : Imm) → Onward d → Some (landing i d) ≡ Some t → Lands i d t
unfolding landing
onward_lands i t (Imm.pos d) h e = cc
onward_lands i t (Imm.neg d) h e = absurd h

call_lands : (i t : ℕ) (o : Option Entry) → mapped (λ (e : Entry). e.first) o ≡ Some t → Lands i (distance o i) t
unfolding mapped distance
call_lands i t None e = absurd (none-some t e)
call_lands i t (Some x) e = let z : x.first ≡ t = cc in rw z (less_lands i t)

-- Any of them.
open_lands : (T : List Entry) (i : ℕ) (o : Open) (t : ℕ) → Ahead o → target_of T i o ≡ Some t → Lands i (patch T i o).imm t
unfolding target_of patch
open_lands T i (word p true w) t h e = onward_lands i t w.imm h e
open_lands T i (word p false w) t h e = absurd (none-some t e)
open_lands T i (calls p f) t h e = call_lands i t (last (λ (e : Entry). e.name) f T) e

-- Of words that are linked from index j on, the one at index k.
linked : (img : List ℕ) (T : List Entry) (k j i : ℕ) (l : List Open) (o : Open) (w : Word) → k ≡ j + i → Each (Good img) l
    → nth i l ≡ Some o → nth i (link T j l) ≡ Some w → Good img o × (w ≡ patch T k o)
unfolding nth link
linked img T k j i [] o w a h e f = absurd (none-some o e)
linked img T k j zero (x ∷ l) o w a h e f = let y : x ≡ o = cc in let z : k ≡ j = omega arith in (rw y at h.0, cc)
linked img T k j (suc i) (x ∷ l) o w a h e f = linked img T k (suc j) i l o w (omega arith) h.1 e f

pub lands : (R : Rules) (img : List ℕ) (q m : ℕ) → check_of img ≡ Sound q m → (b : Built) → marked R (contract_at img) ≡ ok b → (i : ℕ) (o : Open) → nth i b.code ≡ Some o
    → (t : ℕ) → target_of b.table i o ≡ Some t → (w : Word) → nth i (link b.table 0 b.code) ≡ Some w → Lands i w.imm t
lands R img q m c b a i o e t f w g =
    let (h, p) = linked img b.table i 0 i b.code o w (omega arith) (from_ok (rw a at (marked_good R img q m c))) e g in
    rw p (open_lands b.table i o t h.1 f)
