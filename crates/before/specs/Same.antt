-- Where no access is ambiguous in the old sense there is no 30, and every word is as it was.
-- Assumes nothing.
use Rattle.std.specs.Prelude.{◌≡◌, Bool, true, false, ℕ, suc, None, Option, Some}
use Rattle.std.proofs.Math.Path.{refl}
use Rattle.std.proofs.Common.{ap, ◌∙◌}
use mathlib.Core.List.{List, [], ◌∷◌}
use Rattle.rules.specs.Bytes.{pick, Name}
use Rattle.rules.specs.Tables.{or_else}
use Rattle.rules.specs.Tree.{Expr, Exprs, Inits, Stmt, Stmts, Field, Function, Contract}
use Rattle.rules.specs.Refusal.{Res, ◌>>=◌}
use Rattle.rules.specs.Builtins.{Builtin, builtin}
use Rattle.rules.specs.Ambiguous.{in_expr_lem, in_exprs, in_inits_lem, in_stmt_lem, in_stmts, in_functions}
use Rattle.rules.specs.Emit.{Rules, Scope, Values}
use Rattle.rules.specs.Generate.{alloc_reg_lem, slot, result, apply, number, expr, exprs, inits, logs, stmt, stmts, alloc_regs, function}
use Rattle.rules.specs.Link.{functions}
use Rattle.before.specs.Old.{unanalysed}
use Rattle.before.specs.Fields.{some_none}
use Rattle.before.specs.Meant.{offset_same, still_clear}

-- None in either.
neither : {A : Type 0} (o q : Option A) → or_else o q ≡ None → (o ≡ None) × (q ≡ None)
unfolding or_else
neither (Some a) q h = some_none a h
neither None q h = (refl, h)

-- The access is clear, and so is its base.
not_here : (b : Bool) (p : ℕ) (q : Option ℕ) → pick b (Some p) q ≡ None → (b ≡ false) × (q ≡ None)
unfolding pick
not_here true p q h = some_none p h
not_here false p q h = (refl, h)

-- None in both.
pub both_none : {A : Type 0} {o q : Option A} → o ≡ None → q ≡ None → or_else o q ≡ None
unfolding or_else
both_none h g = rw (h, g)

-- One answer after another.
pub in_turn : {A B : Type 0} {m n : Res A} {f g : A → Res B} → m ≡ n → ((a : A) → f a ≡ g a) → (m >>= f) ≡ (n >>= g)
in_turn h k i = h i >>= (λ a. k a i)

module _ (C : Contract) where
  mutual
    unfolding in_expr_lem in_exprs in_inits_lem pick

    pub expr_clear : (e : Expr) → in_expr_lem (unanalysed C) e ≡ None → in_expr_lem C e ≡ None
    expr_clear (Expr.no-expr p) h = refl
    expr_clear (Expr.int p v) h = refl
    expr_clear (Expr.ident p x) h = refl
    expr_clear (Expr.storage-read p x) h = refl
    expr_clear (Expr.mapping-read p x e) h = expr_clear e h
    expr_clear (Expr.field-access p e x) h = let g = not_here _ p _ h in rw (still_clear C p x g.0) (expr_clear e g.1)
    expr_clear (Expr.literal p x is) h = inits_clear is h
    expr_clear (Expr.binary p a o b) h = let g = neither _ _ h in both_none (expr_clear a g.0) (expr_clear b g.1)
    expr_clear (Expr.call p f es) h = exprs_clear es h

    pub exprs_clear : (es : Exprs) → in_exprs (unanalysed C) es ≡ None → in_exprs C es ≡ None
    exprs_clear Exprs.none h = refl
    exprs_clear (Exprs.more e es) h = let g = neither _ _ h in both_none (expr_clear e g.0) (exprs_clear es g.1)

    pub inits_clear : (is : Inits) → in_inits_lem (unanalysed C) is ≡ None → in_inits_lem C is ≡ None
    inits_clear Inits.no-init h = refl
    inits_clear (Inits.init p x e is) h = let g = neither _ _ h in both_none (expr_clear e g.0) (inits_clear is g.1)

  mutual
    unfolding in_stmt_lem in_stmts

    stmt_clear : (s : Stmt) → in_stmt_lem (unanalysed C) s ≡ None → in_stmt_lem C s ≡ None
    stmt_clear (Stmt.no-stmt p) h = refl
    stmt_clear (Stmt.let-in p x e) h = expr_clear e h
    stmt_clear (Stmt.constrain p e) h = expr_clear e h
    stmt_clear (Stmt.assign p x e) h = expr_clear e h
    stmt_clear (Stmt.storage-write p x e) h = expr_clear e h
    stmt_clear (Stmt.mapping-write p x e f) h = let g = neither _ _ h in both_none (expr_clear e g.0) (expr_clear f g.1)
    stmt_clear (Stmt.if-else p c t e) h =
        let g = neither _ _ h in let k = neither _ _ g.1 in both_none (expr_clear c g.0) (both_none (stmts_clear t k.0) (stmts_clear e k.1))
    stmt_clear (Stmt.while p c b) h = let g = neither _ _ h in both_none (expr_clear c g.0) (stmts_clear b g.1)
    stmt_clear (Stmt.for p x e f b) h =
        let g = neither _ _ h in let k = neither _ _ g.1 in both_none (expr_clear e g.0) (both_none (expr_clear f k.0) (stmts_clear b k.1))
    stmt_clear (Stmt.return p e) h = expr_clear e h
    stmt_clear (Stmt.return-none p) h = refl
    stmt_clear (Stmt.emits p x es) h = exprs_clear es h
    stmt_clear (Stmt.just p e) h = expr_clear e h

    stmts_clear : (ss : Stmts) → in_stmts (unanalysed C) ss ≡ None → in_stmts C ss ≡ None
    stmts_clear Stmts.none h = refl
    stmts_clear (Stmts.more s ss) h = let g = neither _ _ h in both_none (stmt_clear s g.0) (stmts_clear ss g.1)

  -- No 30 in any function.
  pub functions_clear : (fs : List Function) → in_functions (unanalysed C) fs ≡ None → in_functions C fs ≡ None
  unfolding in_functions
  functions_clear [] h = refl
  functions_clear (f ∷ fs) h = let g = neither _ _ h in both_none (stmts_clear f.body g.0) (functions_clear fs g.1)

  module _ (R : Rules) where
    -- Nothing but an offset asks for the contract's functions.
    apply_same : (p : ℕ) (f : Name) (n : ℕ) (m : Res Values) (b : Option Builtin) → apply R C p f n m b ≡ apply R (unanalysed C) p f n m b
    unfolding apply result alloc_reg_lem
    apply_same p f n m (Some Builtin.poseidon) = refl
    apply_same p f n m (Some Builtin.sender) = refl
    apply_same p f n m (Some Builtin.nonce) = refl
    apply_same p f n m (Some Builtin.block-number) = refl
    apply_same p f n m (Some Builtin.merkle) = refl
    apply_same p f n m None = refl

    mutual
      unfolding expr exprs inits in_expr_lem in_exprs in_inits_lem alloc_reg_lem slot result number unanalysed

      expr_same : (e : Expr) → in_expr_lem (unanalysed C) e ≡ None → (s : Scope) (n : ℕ) → expr R C e s n ≡ expr R (unanalysed C) e s n
      expr_same (Expr.no-expr p) h s n = refl
      expr_same (Expr.int p v) h s n = refl
      expr_same (Expr.ident p x) h s n = refl
      expr_same (Expr.storage-read p x) h s n = refl
      expr_same (Expr.mapping-read p x e) h s n = in_turn refl (λ k. in_turn (expr_same e h s n) (λ v. refl))
      expr_same (Expr.field-access p e x) h s n =
          let g = not_here _ p _ h in
          in_turn (expr_same e g.1 s n) (λ v. in_turn refl (λ r. rw (offset_same C p x g.0)))
      expr_same (Expr.literal p x is) h s n = in_turn refl (λ q. in_turn (inits_same is h s (suc q)) (λ a. refl))
      expr_same (Expr.binary p a o b) h s n =
          let g = neither _ _ h in
          in_turn (expr_same a g.0 s n) (λ l. in_turn (expr_same b g.1 s l.next) (λ r. refl))
      expr_same (Expr.call p f es) h s n = ap (λ m. apply R C p f n m (builtin f)) (exprs_same es h s n) ∙ apply_same p f n _ (builtin f)

      exprs_same : (es : Exprs) → in_exprs (unanalysed C) es ≡ None → (s : Scope) (n : ℕ) → exprs R C es s n ≡ exprs R (unanalysed C) es s n
      exprs_same Exprs.none h s n = refl
      exprs_same (Exprs.more e es) h s n =
          let g = neither _ _ h in
          in_turn (expr_same e g.0 s n) (λ v. in_turn (exprs_same es g.1 s v.next) (λ vs. refl))

      inits_same : (is : Inits) → in_inits_lem (unanalysed C) is ≡ None → (s : Scope) (n : ℕ) → inits R C is s n ≡ inits R (unanalysed C) is s n
      inits_same Inits.no-init h s n = refl
      inits_same (Inits.init q x e is) h s n =
          let g = neither _ _ h in
          in_turn (expr_same e g.0 s n) (λ v. in_turn (inits_same is g.1 s v.next) (λ vs. refl))

    logs_same : (p : ℕ) (es : Exprs) → in_exprs (unanalysed C) es ≡ None → (s : Scope) (n : ℕ) → logs R C p es s n ≡ logs R (unanalysed C) p es s n
    unfolding logs in_exprs
    logs_same p Exprs.none h s n = refl
    logs_same p (Exprs.more e es) h s n =
        let g = neither _ _ h in
        in_turn (expr_same e g.0 s n) (λ v. in_turn (logs_same p es g.1 s v.next) (λ l. refl))

    mutual
      unfolding stmt stmts in_stmt_lem in_stmts alloc_reg_lem slot unanalysed

      stmt_same : (x : Stmt) → in_stmt_lem (unanalysed C) x ≡ None → (s : Scope) (n : ℕ) → stmt R C x s n ≡ stmt R (unanalysed C) x s n
      stmt_same (Stmt.no-stmt p) h s n = refl
      stmt_same (Stmt.let-in p x e) h s n = in_turn (expr_same e h s n) (λ v. refl)
      stmt_same (Stmt.constrain p e) h s n = in_turn (expr_same e h s n) (λ v. refl)
      stmt_same (Stmt.assign p x e) h s n = in_turn (expr_same e h s n) (λ v. refl)
      stmt_same (Stmt.storage-write p x e) h s n = in_turn (expr_same e h s n) (λ v. refl)
      stmt_same (Stmt.mapping-write p x e f) h s n =
          let g = neither _ _ h in
          in_turn refl (λ k. in_turn (expr_same e g.0 s n) (λ v. in_turn (expr_same f g.1 s v.next) (λ w. refl)))
      stmt_same (Stmt.if-else p c t e) h s n =
          let g = neither _ _ h in let k = neither _ _ g.1 in
          in_turn (expr_same c g.0 s n) (λ v. in_turn (stmts_same e k.1 s n) (λ a. in_turn (stmts_same t k.0 a.scope a.next) (λ b. refl)))
      stmt_same (Stmt.while p c b) h s n =
          let g = neither _ _ h in
          in_turn (expr_same c g.0 s n) (λ v. in_turn (stmts_same b g.1 s n) (λ d. refl))
      stmt_same (Stmt.for p x e f b) h s n =
          let g = neither _ _ h in let k = neither _ _ g.1 in
          in_turn (expr_same e g.0 s n) (λ v. in_turn (expr_same f k.0 s v.next) (λ w.
          in_turn refl (λ i. in_turn refl (λ c. in_turn (stmts_same b k.1 _ (suc i)) (λ d. refl)))))
      stmt_same (Stmt.return p e) h s n = in_turn refl (λ t. in_turn (expr_same e h s (suc t)) (λ v. refl))
      stmt_same (Stmt.return-none p) h s n = refl
      stmt_same (Stmt.emits p x es) h s n = in_turn (logs_same p es h s n) (λ l. refl)
      stmt_same (Stmt.just p e) h s n = in_turn (expr_same e h s n) (λ v. refl)

      stmts_same : (xs : Stmts) → in_stmts (unanalysed C) xs ≡ None → (s : Scope) (n : ℕ) → stmts R C xs s n ≡ stmts R (unanalysed C) xs s n
      stmts_same Stmts.none h s n = refl
      stmts_same (Stmts.more x xs) h s n =
          let g = neither _ _ h in
          in_turn (stmt_same x g.0 s n) (λ d. in_turn (stmts_same xs g.1 d.scope d.next) (λ e. refl))

    allocs_same : (p : ℕ) (xs : List Field) (n : ℕ) → alloc_regs R C p xs n ≡ alloc_regs R (unanalysed C) p xs n
    unfolding alloc_regs alloc_reg_lem
    allocs_same p [] n = refl
    allocs_same p (x ∷ xs) n = in_turn refl (λ r. in_turn (allocs_same p xs (suc r)) (λ rs. refl))

    function_same : (f : Function) → in_stmts (unanalysed C) f.body ≡ None → function R C f ≡ function R (unanalysed C) f
    unfolding function alloc_reg_lem
    function_same f h = in_turn refl (λ a. in_turn (allocs_same _ f.params (suc a)) (λ rs. in_turn (stmts_same f.body h _ _) (λ d. refl)))

    -- The words of every function, and the table.
    pub functions_same : (fs : List Function) → in_functions (unanalysed C) fs ≡ None → (i : ℕ) → functions R C i fs ≡ functions R (unanalysed C) i fs
    unfolding functions in_functions
    functions_same [] h i = refl
    functions_same (f ∷ fs) h i =
        let g = neither _ _ h in
        in_turn (function_same f g.0) (λ c. in_turn (functions_same fs g.1 _) (λ r. refl))
