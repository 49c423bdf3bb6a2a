-- Each expression's words keep the height, each statement's keep it at one.
-- Assumes nothing.
use Rattle.std.specs.Prelude.{◌≡◌, None, Option, Some}
use Rattle.std.proofs.Math.Path.{refl}
use Rattle.std.proofs.Common.{sym, ap, subst, ◌∙◌, arith}
use mathlib.Core.List.{List, [], ◌∷◌, ◌++◌, map, reverse}
use Prim.Native.Nat.{ℕ, zero, suc, ◌+◌, ◌-◌}
use Rattle.std.proofs.Math.ListN.{length, length-reverse}
use Rattle.isa.specs.declared.Opcode.TheVariants as op
use Rattle.rules.specs.Machine.{Kind, Imm, kind}
use Rattle.rules.specs.Tree.{BinOp, Expr, Exprs, Inits, Stmt, Stmts, Field, Function, Contract}
use Rattle.rules.specs.Bytes.{Name}
use Rattle.rules.specs.Builtins.{Builtin, builtin}
use Rattle.rules.specs.Emit.{Rules, Open, word, calls, emit, push, pop, opcode, Scope, count, shift_in, parts, Value, AtReg, Values, Done, stores}
use Rattle.rules.specs.Refusal.{Res}
use Rattle.rules.specs.Generate.{alloc_reg_lem, slot, result, apply, number, expr, exprs, inits, logs, stmt, stmts, alloc_regs, function}
use Rattle.heights.specs.Segment.{Reading, Flow, flow_of, Piece, cat, empty, cons, final}
use Rattle.heights.specs.Shapes.{branch, loop}
use Rattle.heights.specs.Level.{height, CanHeight, StepHeight}
use Rattle.heights.specs.Fits.{size, Passes, Fits, ExprsFit, InitsFit, StmtFits, StmtsFit}
use Rattle.bounds.specs.Answers.{All, all_ok, all_bind, all_next, all_pick}
use Rattle.heights.specs.Pieces.{Flat, Plain}

-- A literal's stores, and a number's words, are.
flat_stores : (p q i : ℕ) (vs : List AtReg) → Flat (stores p q i vs)
unfolding stores
flat_stores p q i [] = tt
flat_stores p q i (v ∷ vs) = (tt, flat_stores p q (suc i) vs)

flat_shift_in : (p r s t : ℕ) (cs : List ℕ) → Flat (shift_in p r s t cs)
unfolding shift_in
flat_shift_in p r s t [] = tt
flat_shift_in p r s t (zero ∷ cs) = (tt, flat_shift_in p r s t cs)
flat_shift_in p r s t (suc c ∷ cs) = (tt, (tt, (tt, flat_shift_in p r s t cs)))

flat_parts : (p r s t : ℕ) (cs : List ℕ) → Flat (parts p r s t cs)
unfolding parts
flat_parts p r s t [] = tt
flat_parts p r s t (zero ∷ cs) = flat_parts p r s t cs
flat_parts p r s t (suc c ∷ cs) = (tt, flat_shift_in p r s t cs)

-- Such a word goes on to the next.
plain_on : (k : Kind) (d : Imm) → Plain k → flow_of k d ≡ Flow.on
plain_on Kind.plain d t = refl
plain_on Kind.pushes d t = absurd t
plain_on Kind.pops d t = absurd t
plain_on Kind.jumps d t = absurd t
plain_on Kind.forks d t = absurd t
plain_on Kind.calls d t = absurd t
plain_on Kind.ends d t = absurd t
plain_on Kind.stuck d t = absurd t

-- So is every binary operation.
plain_opcode : (o : BinOp) → Plain (kind (opcode o))
plain_opcode BinOp.add = tt
plain_opcode BinOp.sub = tt
plain_opcode BinOp.mul = tt
plain_opcode BinOp.div = tt
plain_opcode BinOp.eq = tt
plain_opcode BinOp.neq = tt
plain_opcode BinOp.lt = tt
plain_opcode BinOp.gt = tt
plain_opcode BinOp.lte = tt
plain_opcode BinOp.gte = tt

module _ (takes : Name → ℕ → Type 0) (sole : (f : Name) (n m : ℕ) → takes f n → takes f m → n ≡ m) where
  abbrev H : Reading
  H = height takes

  -- It leaves the height.
  plain_goes : (k : Kind) (a x : ℕ) → Plain k → a ≡ x → CanHeight k x × ((y : ℕ) → StepHeight k x y → a ≡ y)
  plain_goes Kind.plain a x t h = (tt, λ y q. h ∙ sym q)
  plain_goes Kind.pushes a x t h = absurd t
  plain_goes Kind.pops a x t h = absurd t
  plain_goes Kind.jumps a x t h = absurd t
  plain_goes Kind.forks a x t h = absurd t
  plain_goes Kind.calls a x t h = absurd t
  plain_goes Kind.ends a x t h = absurd t
  plain_goes Kind.stuck a x t h = absurd t

  -- No words, at any height.
  none_at : (a : ℕ) → Piece H [] a (a ∷ [])
  none_at a = empty H a a (λ x h. h)

  -- Such words, at any height.
  flat : (l : List Open) (a : ℕ) → Flat l → Piece H l a (a ∷ [])
  flat [] a t = none_at a
  flat (word p b w ∷ l) a t = cons H (word p b w) a a (plain_on (kind w.op) w.imm t.0) (λ x h. plain_goes (kind w.op) a x t.0 h) (flat l a t.1)
  flat (calls p f ∷ l) a t = absurd t

  -- A Push, then what starts one higher.
  push_one : (p r a : ℕ) {ws : List Open} {es : List ℕ} → Piece H ws (suc a) es → Piece H (push p r ∷ ws) a es
  push_one p r a q = cons H (push p r) a (suc a) refl (λ x h. (tt, λ y e. omega arith)) q

  -- A Pop, then what starts one lower.
  pop_one : (p r a : ℕ) {ws : List Open} {es : List ℕ} → Piece H ws a es → Piece H (pop p r ∷ ws) (suc a) es
  pop_one p r a q = cons H (pop p r) (suc a) a refl (λ x h. ((a, h), λ y e. omega arith)) q

  -- Registers pushed, arguments pushed, registers popped.
  pushed : (p : ℕ) (l : List ℕ) (a b : ℕ) → b ≡ a + length l → Piece H (map (push p) l) a (b ∷ [])
  pushed p [] a b e = subst (λ (c : ℕ). Piece H [] a (c ∷ [])) (omega arith) (none_at a)
  pushed p (r ∷ l) a b e = push_one p r a (pushed p l (suc a) b (omega arith))

  passed : (p : ℕ) (l : List AtReg) (a b : ℕ) → b ≡ a + length l → Piece H (map (λ (v : AtReg). push p v.reg) l) a (b ∷ [])
  passed p [] a b e = subst (λ (c : ℕ). Piece H [] a (c ∷ [])) (omega arith) (none_at a)
  passed p (v ∷ l) a b e = push_one p v.reg a (passed p l (suc a) b (omega arith))

  popped : (p : ℕ) (l : List ℕ) (a b : ℕ) → a ≡ b + length l → Piece H (map (pop p) l) a (b ∷ [])
  popped p [] a b e = subst (λ (c : ℕ). Piece H [] c (b ∷ [])) (omega arith) (none_at b)
  popped p (r ∷ l) a b e = subst (λ (c : ℕ). Piece H (map (pop p) (r ∷ l)) c (b ∷ [])) (omega arith) (pop_one p r (b + length l) (popped p l (b + length l) b refl))

  -- A call: what is saved, the arguments' words, the arguments, the call, its result, what was saved.
  call_level : (p : ℕ) (f : Name) (r k : ℕ) (saved : List ℕ) (regs : List AtReg) (c : List Open) (h : ℕ) → takes f k → length regs ≡ k
      → Piece H c (h + length saved) ((h + length saved) ∷ [])
      → Piece H (map (push p) saved ++ (c ++ (map (λ (v : AtReg). push p v.reg) regs ++ (calls p f ∷ pop p r ∷ map (pop p) (reverse saved))))) h (h ∷ [])
  call_level p f r k saved regs c h t e q =
      cat H (pushed p saved h (h + length saved) refl)
      (cat H q
      (cat H (passed p regs (h + length saved) (k + (h + length saved)) (omega arith))
      (cons H (calls p f) (k + (h + length saved)) (suc (h + length saved)) refl
      (λ x g. ((k, h + length saved, t, g), λ y st. omega (arith, sole f st.0 k st.2 t, st.3, st.4)))
      (pop_one p r (h + length saved)
      (popped p (reverse saved) (h + length saved) h (omega (arith, length-reverse saved)))))))

  -- The words of a return, from the pushed value on.
  leave : (p t r : ℕ) (es : List ℕ) → Piece H (push p r ∷ push p t ∷ emit p op.Ret 0 0 0 (Imm.pos 0) ∷ []) 0 es
  leave p t r es = push_one p r 0 (push_one p t 1 (final H _ 2 es refl (λ x h. sym h)))

  -- Words that keep every height from which they may be entered.
  abbrev Level : List Open → Type 0
  Level c = (h : ℕ) → Piece H c h (h ∷ [])

  module _ (R : Rules) (C : Contract) where
    -- A call keeps the height.
    apply_level : (p : ℕ) (f : Name) (n k : ℕ) (m : Res Values) (b : Option Builtin) → Passes takes b f k → All (λ (a : Values). Level a.code × (length a.regs ≡ k)) m
        → All (λ (v : Value). Level v.code) (apply R C p f n m b)
    unfolding apply
    apply_level p f n k m (Some Builtin.poseidon) t e = all_bind m _ e (λ a q. all_next (result R C p n _ _) _ (λ d. all_ok _ (λ h. cat H (q.0 h) (flat _ h (tt, tt)))))
    apply_level p f n k m (Some Builtin.sender) t e = all_next (alloc_reg_lem R C p n) _ (λ d. all_ok _ (λ h. flat _ h (tt, tt)))
    apply_level p f n k m (Some Builtin.nonce) t e = all_next (alloc_reg_lem R C p n) _ (λ d. all_ok _ (λ h. flat _ h (tt, tt)))
    apply_level p f n k m (Some Builtin.block-number) t e = all_next (alloc_reg_lem R C p n) _ (λ d. all_ok _ (λ h. flat _ h (tt, tt)))
    apply_level p f n k m (Some Builtin.merkle) t e = all_bind m _ e (λ a q. all_next (alloc_reg_lem R C p a.next) _ (λ d. all_ok _ (λ h. cat H (q.0 h) (flat _ h (tt, tt)))))
    apply_level p f n k m None t e = all_bind m _ e (λ a q. all_next (alloc_reg_lem R C p n) _ (λ d. all_ok _ (λ h.
        call_level p f d k (count 1 (n - 1)) a.regs a.code h t q.1 (q.0 (h + length (count 1 (n - 1)))))))

    -- So does a number.
    number_level : (p v n : ℕ) → All (λ (x : Value). Level x.code) (number R C p v n)
    unfolding number
    number_level p v n = all_pick _ _ _
        (all_next (alloc_reg_lem R C p n) _ (λ r. all_ok _ (λ h. flat _ h (tt, tt))))
        (all_next (alloc_reg_lem R C p n) _ (λ r. all_next (alloc_reg_lem R C p (suc r)) _ (λ s. all_next (alloc_reg_lem R C p (suc s)) _ (λ t.
        all_ok _ (λ h. flat _ h (tt, flat_parts p r s t _))))))

    mutual
      unfolding expr exprs inits Fits ExprsFit InitsFit size

      expr_level : (e : Expr) → Fits takes e → (s : Scope) (n : ℕ) → All (λ (v : Value). Level v.code) (expr R C e s n)
      expr_level (Expr.no-expr p) q s n = all_ok _ (none_at)
      expr_level (Expr.int p v) q s n = number_level p v n
      expr_level (Expr.ident p x) q s n = all_next _ _ (λ r. all_ok _ (none_at))
      expr_level (Expr.storage-read p x) q s n = all_next _ _ (λ r. all_next _ _ (λ k. all_ok _ (λ h. flat _ h (tt, tt))))
      expr_level (Expr.mapping-read p x e) q s n =
          all_next (slot R C _ x) _ (λ k.
          all_bind (expr R C e s n) _ (expr_level e q s n) (λ v pv.
          all_next _ _ (λ b. all_next _ _ (λ t. all_next _ _ (λ r.
          all_ok _ (λ h. cat H (pv h) (flat _ h (tt, (tt, (tt, tt))))))))))
      expr_level (Expr.field-access p e x) q s n =
          all_bind (expr R C e s n) _ (expr_level e q s n) (λ v pv.
          all_next _ _ (λ r. all_ok _ (λ h. cat H (pv h) (flat _ h (tt, tt)))))
      expr_level (Expr.literal p x is) q s n =
          all_next (alloc_reg_lem R C p n) _ (λ r.
          all_bind (inits R C is s (suc r)) _ (inits_level is q s (suc r)) (λ a pa.
          all_next _ _ (λ z. all_next _ _ (λ d. all_ok _ (λ h.
          cat H (flat (_ ∷ []) h (tt, tt)) (cat H (pa h) (cat H (flat (stores p r 0 a.regs) h (flat_stores p r 0 a.regs)) (flat _ h (tt, (tt, (tt, tt)))))))))))
      expr_level (Expr.binary p a o b) q s n =
          all_bind (expr R C a s n) _ (expr_level a q.0 s n) (λ l pl.
          all_bind (expr R C b s l.next) _ (expr_level b q.1 s l.next) (λ r pr.
          all_next _ _ (λ d. all_ok _ (λ h. cat H (pl h) (cat H (pr h) (flat _ h (plain_opcode o, tt)))))))
      expr_level (Expr.call p f es) q s n =
          apply_level p f n (size es) (exprs R C es s n) (builtin f) q.0 (exprs_level es q.1 s n)

      exprs_level : (es : Exprs) → ExprsFit takes es → (s : Scope) (n : ℕ) → All (λ (v : Values). Level v.code × (length v.regs ≡ size es)) (exprs R C es s n)
      exprs_level Exprs.none q s n = all_ok _ (none_at, refl)
      exprs_level (Exprs.more e es) q s n =
          all_bind (expr R C e s n) _ (expr_level e q.0 s n) (λ v pv.
          all_bind (exprs R C es s v.next) _ (exprs_level es q.1 s v.next) (λ vs pvs.
          all_ok _ (λ h. cat H (pv h) (pvs.0 h), ap suc pvs.1)))

      inits_level : (is : Inits) → InitsFit takes is → (s : Scope) (n : ℕ) → All (λ (v : Values). Level v.code) (inits R C is s n)
      inits_level Inits.no-init q s n = all_ok _ (none_at)
      inits_level (Inits.init p x e is) q s n =
          all_bind (expr R C e s n) _ (expr_level e q.0 s n) (λ v pv.
          all_bind (inits R C is s v.next) _ (inits_level is q.1 s v.next) (λ vs pvs.
          all_ok _ (λ h. cat H (pv h) (pvs h))))

    -- And an Emit.
    logs_level : (p : ℕ) (es : Exprs) → ExprsFit takes es → (s : Scope) (n : ℕ) → All Level (logs R C p es s n)
    unfolding logs ExprsFit
    logs_level p Exprs.none q s n = all_ok _ (none_at)
    logs_level p (Exprs.more e es) q s n =
        all_bind (expr R C e s n) _ (expr_level e q.0 s n) (λ v pv.
        all_bind (logs R C p es s v.next) _ (logs_level p es q.1 s v.next) (λ l pl.
        all_ok _ (λ h. cat H (pv h) (cat H (flat (_ ∷ []) h (tt, tt)) (pl h)))))

    mutual
      unfolding stmt stmts StmtFits StmtsFit

      stmt_level : (x : Stmt) → StmtFits takes x → (s : Scope) (n : ℕ) → All (λ (d : Done). Piece H d.code 1 (1 ∷ [])) (stmt R C x s n)
      stmt_level (Stmt.no-stmt p) q s n = all_ok _ (none_at 1)
      stmt_level (Stmt.let-in p x e) q s n =
          all_bind (expr R C e s n) _ (expr_level e q s n) (λ v pv.
          all_pick _ _ _ (all_ok _ (pv 1))
          (all_pick _ _ _
          (all_next _ _ (λ r. all_ok _ (cat H (pv 1) (flat _ 1 (tt, tt)))))
          (all_ok _ (pv 1))))
      stmt_level (Stmt.constrain p e) q s n =
          all_bind (expr R C e s n) _ (expr_level e q s n) (λ v pv. all_ok _ (cat H (pv 1) (flat _ 1 (tt, tt))))
      stmt_level (Stmt.assign p x e) q s n =
          all_bind (expr R C e s n) _ (expr_level e q s n) (λ v pv. all_next _ _ (λ r. all_ok _ (cat H (pv 1) (flat _ 1 (tt, tt)))))
      stmt_level (Stmt.storage-write p x e) q s n =
          all_bind (expr R C e s n) _ (expr_level e q s n) (λ v pv. all_next _ _ (λ k. all_ok _ (cat H (pv 1) (flat _ 1 (tt, tt)))))
      stmt_level (Stmt.mapping-write p x e f) q s n =
          all_next (slot R C _ x) _ (λ k.
          all_bind (expr R C e s n) _ (expr_level e q.0 s n) (λ v pv.
          all_bind (expr R C f s v.next) _ (expr_level f q.1 s v.next) (λ w pw.
          all_next _ _ (λ b. all_next _ _ (λ t.
          all_ok _ (cat H (pv 1) (cat H (pw 1) (flat _ 1 (tt, (tt, (tt, tt)))))))))))
      stmt_level (Stmt.if-else p c t e) q s n =
          all_bind (expr R C c s n) _ (expr_level c q.0 s n) (λ v pv.
          all_bind (stmts R C e s n) _ (stmts_level e q.2 s n) (λ a pa.
          all_bind (stmts R C t a.scope a.next) _ (stmts_level t q.1 a.scope a.next) (λ b pb.
          all_ok _ (cat H (pv 1) (branch H p v.reg pa pb)))))
      stmt_level (Stmt.while p c b) q s n =
          all_bind (expr R C c s n) _ (expr_level c q.0 s n) (λ v pv.
          all_bind (stmts R C b s n) _ (stmts_level b q.1 s n) (λ d pd.
          all_ok _ (loop H p v.reg (pv 1) pd)))
      stmt_level (Stmt.for p x e f b) q s n =
          all_bind (expr R C e s n) _ (expr_level e q.0 s n) (λ v pv.
          all_bind (expr R C f s v.next) _ (expr_level f q.1 s v.next) (λ w pw.
          all_next (alloc_reg_lem R C p w.next) _ (λ i. all_next (alloc_reg_lem R C p (suc i)) _ (λ c.
          all_bind (stmts R C b _ (suc i)) _ (stmts_level b q.2 _ (suc i)) (λ d pd.
          all_next _ _ (λ o.
          all_ok _ (cat H (pv 1) (cat H (pw 1) (cat H (flat (_ ∷ []) 1 (tt, tt))
          (loop H p c (flat _ 1 (tt, tt)) (cat H pd (flat _ 1 (tt, (tt, tt))))))))))))))
      stmt_level (Stmt.return p e) q s n =
          all_next (alloc_reg_lem R C p n) _ (λ t.
          all_bind (expr R C e s (suc t)) _ (expr_level e q s (suc t)) (λ v pv.
          all_ok _ (pop_one p t 0 (cat H (pv 0) (leave p t v.reg (1 ∷ []))))))
      stmt_level (Stmt.return-none p) q s n =
          all_next _ _ (λ t. all_next _ _ (λ z. all_ok _ (pop_one p t 0 (cat H (flat (_ ∷ []) 0 (tt, tt)) (leave p t z (1 ∷ []))))))
      stmt_level (Stmt.emits p x es) q s n = all_bind (logs R C p es s n) _ (logs_level p es q s n) (λ l pl. all_ok _ (pl 1))
      stmt_level (Stmt.just p e) q s n = all_bind (expr R C e s n) _ (expr_level e q s n) (λ v pv. all_ok _ (pv 1))

      stmts_level : (xs : Stmts) → StmtsFit takes xs → (s : Scope) (n : ℕ) → All (λ (d : Done). Piece H d.code 1 (1 ∷ [])) (stmts R C xs s n)
      stmts_level Stmts.none q s n = all_ok _ (none_at 1)
      stmts_level (Stmts.more x xs) q s n =
          all_bind (stmt R C x s n) _ (stmt_level x q.0 s n) (λ d pd.
          all_bind (stmts R C xs d.scope d.next) _ (stmts_level xs q.1 d.scope d.next) (λ e pe.
          all_ok _ (cat H pd pe)))

    -- A register for each parameter.
    alloc_regs_length : (p : ℕ) (xs : List Field) (n : ℕ) → All (λ (rs : List ℕ). length rs ≡ length xs) (alloc_regs R C p xs n)
    unfolding alloc_regs
    alloc_regs_length p [] n = all_ok _ refl
    alloc_regs_length p (x ∷ xs) n =
        all_next (alloc_reg_lem R C p n) _ (λ r.
        all_bind (alloc_regs R C p xs (suc r)) _ (alloc_regs_length p xs (suc r)) (λ rs e. all_ok _ (ap suc e)))

    -- A function's words, entered at its parameters and one, go on nowhere behind their last.
    pub function_closed : (f : Function) → StmtsFit takes f.body → All (λ (c : List Open). Piece H c (suc (length f.params)) []) (function R C f)
    unfolding function
    function_closed f q =
        all_next (alloc_reg_lem R C f.place 1) _ (λ a.
        all_bind (alloc_regs R C f.place f.params (suc a)) _ (alloc_regs_length f.place f.params (suc a)) (λ rs e.
        all_bind (stmts R C f.body _ _) _ (stmts_level f.body q _ _) (λ d pd.
        all_next (alloc_reg_lem R C f.place d.next) _ (λ t.
        all_next (alloc_reg_lem R C f.place (suc t)) _ (λ z.
        all_ok _
        (pop_one f.place a (length f.params)
        (cat H (popped f.place (reverse rs) (length f.params) 0 (omega (arith, length-reverse rs)))
        (push_one f.place a 0
        (cat H pd (pop_one f.place t 0 (cat H (flat (_ ∷ []) 0 (tt, tt)) (leave f.place t z []))))))))))))
