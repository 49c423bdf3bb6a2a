-- Every refusal of an image, before the room is looked at: Q holds of it if Q holds at the places and the names of the image.
-- Assumes nothing.
use Rattle.std.specs.Prelude.{◌≡◌, refl, ℕ, ◌+◌, ◌≤◌, length, None, Option, Some}
use Rattle.std.proofs.Common.{sym}
use Rattle.std.proofs.Math.Path.{subst}
use mathlib.Core.List.{List, [], ◌∷◌}
use Rattle.rules.specs.Seen.{Sound}
use Rattle.rules.specs.Bytes.{Name}
use Rattle.rules.specs.Check.{check_of}
use Rattle.rules.specs.Tables.{last}
use Rattle.rules.specs.Tree.{Expr, Exprs, Inits, Stmt, Stmts, Field, Function, Contract}
use Rattle.rules.specs.Read.{contract_at}
use Rattle.rules.specs.Refusal.{Refusal, Res}
use Rattle.rules.specs.Builtins.{Builtin}
use Rattle.rules.specs.Analyse.{analyse}
use Rattle.rules.specs.Ambiguous.{first_ambiguous_lem}
use Rattle.rules.specs.Emit.{Rules, Scope, Values, AtReg}
use Rattle.rules.specs.Generate.{alloc_reg_lem, slot, result, apply, number, expr, exprs, inits, logs, stmt, stmts, alloc_regs, function}
use Rattle.rules.specs.Link.{Program, functions, with_main, generate}
use Rattle.rules.specs.Build.{clear, analysed, judged, program}
use Rattle.bounds.specs.Held.{Opt, Each}
use Rattle.bounds.specs.Whole.{Short, Here, Whole, WholeExprs, WholeInits, WholeStmt, WholeStmts, WholeFunction}
use Rattle.bounds.proofs.ContractOf.{uncut, all_whole}
use Rattle.bounds.specs.Said.{Said, said_ok, said_bad, Any, said_then, said_pick, said_found, AllowsFront, AllowsGeneration, Allows, AllowsFaults, check_said}
use Rattle.bounds.specs.SaidAnalysis.{analysis_said, clear_said}
use Rattle.bounds.specs.SaidProgram.{Of, Sure}

-- Generation.
module _ (img : List ℕ) (Q : Refusal → Type 0) (A : AllowsGeneration img Q) (R : Rules) (C : Contract) where
  alloc_said : (p n : ℕ) → Here img p → Sure Q (alloc_reg_lem R C p n)
  unfolding alloc_reg_lem
  alloc_said p n h = said_pick _ _ _ (said_ok n tt) (said_bad _ (A.exhausted p h))

  slot_said : (r : Refusal) (x : Name) → Q r → Sure Q (slot R C r x)
  unfolding slot
  slot_said r x h = said_found _ _ h

  result_said : (p n : ℕ) (l r : AtReg) → Here img p → Sure Q (result R C p n l r)
  unfolding result
  result_said p n l r h = said_pick _ _ _ (said_ok _ tt) (said_pick _ _ _ (said_ok _ tt) (alloc_said p _ h))

  apply_said : (p : ℕ) (f : Name) (n : ℕ) (m : Res Values) (b : Option Builtin) → Here img p → Sure Q m → Sure Q (apply R C p f n m b)
  unfolding apply
  apply_said p f n m (Some Builtin.poseidon) h g = said_then _ _ g (λ a w. said_then _ _ (result_said p n _ _ h) (λ d u. said_ok _ tt))
  apply_said p f n m (Some Builtin.sender) h g = said_then _ _ (alloc_said p n h) (λ d u. said_ok _ tt)
  apply_said p f n m (Some Builtin.nonce) h g = said_then _ _ (alloc_said p n h) (λ d u. said_ok _ tt)
  apply_said p f n m (Some Builtin.block-number) h g = said_then _ _ (alloc_said p n h) (λ d u. said_ok _ tt)
  apply_said p f n m (Some Builtin.merkle) h g = said_then _ _ g (λ a w. said_then _ _ (alloc_said p _ h) (λ d u. said_ok _ tt))
  apply_said p f n m None h g = said_then _ _ g (λ a w. said_then _ _ (alloc_said p n h) (λ d u. said_ok _ tt))

  number_said : (p v n : ℕ) → Here img p → Sure Q (number R C p v n)
  unfolding number
  number_said p v n h = said_pick _ _ _ (said_then _ _ (alloc_said p n h) (λ r u. said_ok _ tt))
      (said_then _ _ (alloc_said p n h) (λ r u. said_then _ _ (alloc_said p _ h) (λ s w. said_then _ _ (alloc_said p _ h) (λ t z. said_ok _ tt))))

  mutual
    unfolding expr exprs inits Whole WholeExprs WholeInits

    expr_said : (e : Expr) (s : Scope) (n : ℕ) → Whole img e → Sure Q (expr R C e s n)
    expr_said (Expr.no-expr p) s n h = absurd h
    expr_said (Expr.int p v) s n h = number_said p v n h
    expr_said (Expr.ident p x) s n h = said_then _ _ (said_found _ _ (A.unread p x h)) (λ r u. said_ok _ tt)
    expr_said (Expr.storage-read p x) s n h = said_then _ _ (alloc_said p n h.here) (λ r u. said_then _ _ (slot_said _ x (A.storage_unread p x h)) (λ k w. said_ok _ tt))
    expr_said (Expr.mapping-read p x e) s n h =
        said_then _ _ (slot_said _ x (A.mapping_unread p x h.0)) (λ k u. said_then _ _ (expr_said e s n h.1) (λ v w.
        said_then _ _ (alloc_said p _ h.0.here) (λ b y. said_then _ _ (alloc_said p _ h.0.here) (λ t z. said_then _ _ (alloc_said p _ h.0.here) (λ r q. said_ok _ tt)))))
    expr_said (Expr.field-access p e x) s n h = said_then _ _ (expr_said e s n h.1) (λ v u. said_then _ _ (alloc_said p _ h.0) (λ r w. said_ok _ tt))
    expr_said (Expr.literal p x is) s n h =
        said_then _ _ (alloc_said p n h.0.here) (λ q u. said_then _ _ (inits_said is s _ h.2) (λ a w.
        said_then _ _ (alloc_said p _ h.0.here) (λ z y. said_then _ _ (alloc_said p n h.0.here) (λ r k. said_ok _ tt))))
    expr_said (Expr.binary p a o b) s n h = said_then _ _ (expr_said a s n h.1) (λ l u. said_then _ _ (expr_said b s _ h.2) (λ r w. said_then _ _ (result_said p n _ _ h.0) (λ d z. said_ok _ tt)))
    expr_said (Expr.call p f es) s n h = apply_said p f n _ _ h.0.here (exprs_said es s n h.2)

    exprs_said : (es : Exprs) (s : Scope) (n : ℕ) → WholeExprs img es → Sure Q (exprs R C es s n)
    exprs_said Exprs.none s n h = said_ok _ tt
    exprs_said (Exprs.more e es) s n h = said_then _ _ (expr_said e s n h.0) (λ v u. said_then _ _ (exprs_said es s _ h.1) (λ vs w. said_ok _ tt))

    inits_said : (is : Inits) (s : Scope) (n : ℕ) → WholeInits img is → Sure Q (inits R C is s n)
    inits_said Inits.no-init s n h = said_ok _ tt
    inits_said (Inits.init q x e is) s n h = said_then _ _ (expr_said e s n h.1) (λ v u. said_then _ _ (inits_said is s _ h.2) (λ vs w. said_ok _ tt))

  logs_said : (p : ℕ) (es : Exprs) (s : Scope) (n : ℕ) → WholeExprs img es → Sure Q (logs R C p es s n)
  unfolding logs WholeExprs
  logs_said p Exprs.none s n h = said_ok _ tt
  logs_said p (Exprs.more e es) s n h = said_then _ _ (expr_said e s n h.0) (λ v u. said_then _ _ (logs_said p es s _ h.1) (λ l w. said_ok _ tt))

  mutual
    unfolding stmt stmts WholeStmt WholeStmts

    stmt_said : (x : Stmt) (s : Scope) (n : ℕ) → WholeStmt img x → Sure Q (stmt R C x s n)
    stmt_said (Stmt.no-stmt p) s n h = absurd h
    stmt_said (Stmt.let-in p x e) s n h =
        said_then _ _ (expr_said e s n h.1) (λ v u. said_pick _ _ _ (said_ok _ tt) (said_pick _ _ _ (said_then _ _ (alloc_said p _ h.0.here) (λ r w. said_ok _ tt)) (said_ok _ tt)))
    stmt_said (Stmt.constrain p e) s n h = said_then _ _ (expr_said e s n h.1) (λ v u. said_ok _ tt)
    stmt_said (Stmt.assign p x e) s n h = said_then _ _ (expr_said e s n h.1) (λ v u. said_then _ _ (said_found _ _ (A.unassigned p x h.0)) (λ r w. said_ok _ tt))
    stmt_said (Stmt.storage-write p x e) s n h = said_then _ _ (expr_said e s n h.1) (λ v u. said_then _ _ (slot_said _ x (A.storage_unwritten p x h.0)) (λ k w. said_ok _ tt))
    stmt_said (Stmt.mapping-write p x e f) s n h =
        said_then _ _ (slot_said _ x (A.mapping_unwritten p x h.0)) (λ k u. said_then _ _ (expr_said e s n h.1) (λ v w. said_then _ _ (expr_said f s _ h.2) (λ y z.
        said_then _ _ (alloc_said p _ h.0.here) (λ b q. said_then _ _ (alloc_said p _ h.0.here) (λ t r. said_ok _ tt)))))
    stmt_said (Stmt.if-else p c t e) s n h =
        said_then _ _ (expr_said c s n h.1) (λ v u. said_then _ _ (stmts_said e s n h.5) (λ a w. said_then _ _ (stmts_said t _ _ h.3) (λ b z. said_ok _ tt)))
    stmt_said (Stmt.while p c b) s n h = said_then _ _ (expr_said c s n h.1) (λ v u. said_then _ _ (stmts_said b s n h.3) (λ d w. said_ok _ tt))
    stmt_said (Stmt.for p x e f b) s n h =
        said_then _ _ (expr_said e s n h.1) (λ v u. said_then _ _ (expr_said f s _ h.2) (λ w y. said_then _ _ (alloc_said p _ h.0.here) (λ i z.
        said_then _ _ (alloc_said p _ h.0.here) (λ c q. said_then _ _ (stmts_said b _ _ h.4) (λ d r. said_then _ _ (alloc_said p _ h.0.here) (λ o k. said_ok _ tt))))))
    stmt_said (Stmt.return p e) s n h = said_then _ _ (alloc_said p n h.0) (λ t u. said_then _ _ (expr_said e s _ h.1) (λ v w. said_ok _ tt))
    stmt_said (Stmt.return-none p) s n h = said_then _ _ (alloc_said p n h) (λ t u. said_then _ _ (alloc_said p _ h) (λ z w. said_ok _ tt))
    stmt_said (Stmt.emits p x es) s n h = said_then _ _ (logs_said p es s n h.2) (λ l u. said_ok _ tt)
    stmt_said (Stmt.just p e) s n h = said_then _ _ (expr_said e s n h.1) (λ v u. said_ok _ tt)

    stmts_said : (xs : Stmts) (s : Scope) (n : ℕ) → WholeStmts img xs → Sure Q (stmts R C xs s n)
    stmts_said Stmts.none s n h = said_ok _ tt
    stmts_said (Stmts.more x xs) s n h = said_then _ _ (stmt_said x s n h.0) (λ d u. said_then _ _ (stmts_said xs _ _ h.1) (λ e w. said_ok _ tt))

  allocs_said : (p : ℕ) (xs : List Field) (n : ℕ) → Here img p → Sure Q (alloc_regs R C p xs n)
  unfolding alloc_regs
  allocs_said p [] n h = said_ok _ tt
  allocs_said p (x ∷ xs) n h = said_then _ _ (alloc_said p n h) (λ r u. said_then _ _ (allocs_said p xs _ h) (λ rs w. said_ok _ tt))

  function_said : (f : Function) → WholeFunction img f → Sure Q (function R C f)
  unfolding function
  function_said f h =
      said_then _ _ (alloc_said _ 1 h.here) (λ a u. said_then _ _ (allocs_said _ f.params _ h.here) (λ rs w. said_then _ _ (stmts_said f.body _ _ h.stmts) (λ d y.
      said_then _ _ (alloc_said _ _ h.here) (λ t z. said_then _ _ (alloc_said _ _ h.here) (λ q r. said_ok _ tt)))))

  functions_said : (i : ℕ) (fs : List Function) → Each (λ (f : Function). WholeFunction img f) fs → Sure Q (functions R C i fs)
  unfolding functions
  functions_said i [] h = said_ok _ tt
  functions_said i (f ∷ fs) h = said_then _ _ (function_said f h.0) (λ c u. said_then _ _ (functions_said (i + length c) fs h.1) (λ r w. said_ok _ tt))

  -- Rows 40 to 47.
  generate_of : Each (λ (f : Function). WholeFunction img f) C.functions → Sure Q (generate R C)
  unfolding generate with_main
  generate_of h = with (last _ _ C.functions) (said_then _ _ (functions_said 3 C.functions h) (λ b u. said_ok _ tt))
    where
      with : {B : Type 0} {r : Res B} (o : Option Function) → Sure Q r → Sure Q (with_main o r)
      with None g = said_bad Refusal.no_main A.no_main
      with (Some f) g = g

each_ret : (img : List ℕ) (fs : List Function) → Each (λ (f : Function). WholeFunction img f) fs → Each (λ (f : Function). Opt Short f.ret) fs
each_ret img [] h = tt
each_ret img (f ∷ fs) h = (h.0.ret, each_ret img fs h.1)

-- The stages behind the check, of an image that passed it.
module _ (img : List ℕ) (q m : ℕ) (sound : check_of img ≡ Sound q m) (Q : Refusal → Type 0) where
  pub analyse_said : AllowsFront img Q → Said Q (Any (Unit {0})) (analyse (contract_at img))
  unfolding analyse
  analyse_said A =
      let w = all_whole img q m sound in
      analysis_said img Q A (contract_at img) (record { structs = (uncut img q m sound).types; rets = each_ret img (contract_at img).functions w }) (contract_at img).functions w

  ambiguous_said : AllowsFront img Q → Said Q (Any (Unit {0})) (clear (first_ambiguous_lem (contract_at img)))
  ambiguous_said A = clear_said img (contract_at img) Q A (all_whole img q m sound)

  pub generate_said : AllowsGeneration img Q → (R : Rules) → Said Q (Any Program) (generate R (contract_at img))
  generate_said A R = generate_of img Q A R (contract_at img) (all_whole img q m sound)

-- All of them, one stage after the other.
module _ (img : List ℕ) (Q : Refusal → Type 0) (f : AllowsFaults Q) where
  pub analysed_said : (length img ≤ 65536 → AllowsFront img Q) → Said Q (Of img) (analysed img)
  unfolding analysed
  analysed_said A = said_then _ _ (check_said img Q f)
      (λ u s. said_then _ _ (analyse_said img s.0 s.1 s.2 Q (A (uncut img s.0 s.1 s.2).bytes)) (λ v w. said_ok _ (record { is = refl; end = s.0; names = s.1; sound = s.2 })))

  pub judged_said : (length img ≤ 65536 → AllowsFront img Q) → Said Q (Of img) (judged img)
  unfolding judged
  judged_said A = said_then _ _ (analysed_said A) (λ C s. said_then {O = Any (Unit {0})} _ _ (behind C s) (λ u v. said_ok C s))
    where
      behind : (C : Contract) → Of img C → Said Q (Any (Unit {0})) (clear (first_ambiguous_lem C))
      behind C s =
          subst (λ (D : Contract). Said Q (Any (Unit {0})) (clear (first_ambiguous_lem D))) (sym s.is)
          (ambiguous_said img s.end s.names s.sound Q (A (uncut img s.end s.names s.sound).bytes))

  pub program_said : (R : Rules) → (length img ≤ 65536 → Allows img Q) → Said Q (Any Program) (program R img)
  unfolding program
  program_said R A = said_then _ _ (judged_said (λ h. (A h).front))
      (λ C s. subst (λ (D : Contract). Said Q (Any Program) (generate R D)) (sym s.is)
      (generate_said img s.end s.names s.sound Q (A (uncut img s.end s.names s.sound).bytes).generation R))
