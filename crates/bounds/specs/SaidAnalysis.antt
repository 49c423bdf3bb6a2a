-- What analysis and 30 refuse of a checked contract: at its places, with its names (rows 10 to 22, and 30).
-- Assumes nothing.
use Rattle.std.specs.Prelude.{Bool, true, false, ℕ, suc, length, None, Option, Some}
use mathlib.Core.List.{List, [], ◌∷◌}
use Rattle.rules.specs.Bytes.{pick, Name, eq_name}
use Rattle.rules.specs.Tables.{last, mapped}
use Rattle.rules.specs.Tree as tree
use Rattle.rules.specs.Tree.{Expr, Exprs, Inits, Stmt, Stmts, Field, Struct, Function, Contract}
use Rattle.rules.specs.Types.{Typ, type_named, Local, Env, find}
use Rattle.rules.specs.Refusal.{Refusal}
use Rattle.rules.specs.Builtins.{Builtin, builtin, arity}
use Rattle.rules.specs.Analyse as analysis
use Rattle.rules.specs.Ambiguous.{is_ambiguous_lem, in_expr_lem, in_exprs, in_inits_lem, in_stmt_lem, in_stmts, in_functions, first_ambiguous_lem}
use Rattle.rules.specs.Build.{clear}
use Rattle.bounds.specs.Held.{Opt, opt_or, opt_pick, Each, each_last}
use Rattle.bounds.specs.Whole.{Short, ShortTypes, Here, Named, Whole, WholeExprs, WholeInits, WholeStmt, WholeStmts, WholeFunction}
use Rattle.bounds.specs.Said.{Said, said_ok, said_bad, Any, said_then, said_pick, said_known, said_found, said_unless, ShortType, AllowsFront}

-- 001: Type::from_str, of a short name
short_named : (x : Name) → Short x → ShortType (type_named x)
unfolding type_named pick
short_named x h = by (eq_name x _) (eq_name x _) (eq_name x _)
  where
    by : (a b c : Bool) → ShortType (pick a Typ.u64 (pick b Typ.bool (pick c Typ.field (Typ.struct x))))
    by true b c = tt
    by false true c = tt
    by false false true = tt
    by false false false = h

-- 001: env
abbrev ShortEnv : Env → Type 0
ShortEnv Γ = Each (λ (l : Local). ShortType l.type) Γ

short_find : (x : Name) (Γ : Env) → ShortEnv Γ → Opt ShortType (find x Γ)
unfolding find
short_find x [] h = tt
short_find x (l ∷ Γ) h = opt_pick _ _ _ _ h.0 (short_find x Γ h.1)

short_params : (ps : List Field) (Γ : Env) → ShortTypes ps → ShortEnv Γ → ShortEnv (analysis.with_params ps Γ)
unfolding analysis.with_params
short_params [] Γ h g = g
short_params (p ∷ ps) Γ h g = short_params ps _ h.1 (short_named p.type h.0, g)

short_ret : (o : Option Name) → Opt Short o → ShortType (analysis.ret_type o)
unfolding analysis.ret_type
short_ret None h = tt
short_ret (Some x) h = short_named x h

-- 001: structs, functions: what is looked up has short types.
short_field : (x : Name) (s : Struct) → ShortTypes s.fields → Opt ShortType (analysis.field_type_lem x s)
unfolding analysis.field_type_lem mapped
short_field x s h = by (last analysis.field_name x s.fields) (each_last (λ (f : Field). Short f.type) analysis.field_name x s.fields h)
  where
    by : (o : Option Field) → Opt (λ (f : Field). Short f.type) o → Opt ShortType (mapped (λ (f : Field). type_named f.type) o)
    by None g = tt
    by (Some f) g = short_named f.type g

-- A contract whose types are short.
pub record ShortContract (C : Contract) : Type 0 where
  pub structs : Each (λ (s : Struct). ShortTypes s.fields) C.structs
  pub rets : Each (λ (f : Function). Opt Short f.ret) C.functions

short_signature : (C : Contract) → ShortContract C → (x : Name) → Opt (λ (s : analysis.Sig). ShortType s.ret) (analysis.signature C x)
unfolding analysis.signature analysis.sig_of mapped
short_signature C h x = opt_or _ _ _ (known (builtin x)) (user (last analysis.function_name x C.functions) (each_last (λ (f : Function). Opt Short f.ret) analysis.function_name x C.functions h.rets))
  where
    known : (o : Option Builtin) → Opt (λ (s : analysis.Sig). ShortType s.ret) (mapped (λ (b : Builtin). analysis.sig (analysis.repeated (arity b)) Typ.u64) o)
    known None = tt
    known (Some b) = tt

    user : (o : Option Function) → Opt (λ (f : Function). Opt Short f.ret) o → Opt (λ (s : analysis.Sig). ShortType s.ret) (mapped analysis.sig_of o)
    user None g = tt
    user (Some f) g = short_ret f.ret g

module _ (img : List ℕ) (Q : Refusal → Type 0) (A : AllowsFront img Q) (C : Contract) (S : ShortContract C) where
  -- The place of an expression.
  own : (e : Expr) → Whole img e → Here img (tree.place_of e)
  unfolding Whole tree.place_of
  own (Expr.no-expr p) h = absurd h
  own (Expr.int p v) h = h
  own (Expr.ident p x) h = h.here
  own (Expr.storage-read p x) h = h.here
  own (Expr.mapping-read p x e) h = h.0.here
  own (Expr.field-access p e x) h = h.0
  own (Expr.literal p x is) h = h.0.here
  own (Expr.binary p a o b) h = h.0
  own (Expr.call p f es) h = h.0.here

  -- Arguments stand in the image, and so does the first that does not fit.
  abbrev Args : List analysis.Arg → Type 0
  Args vs = Each (λ (a : analysis.Arg). Here img a.place) vs

  misfit_said : (ps : List Typ) (i : ℕ) (vs : List analysis.Arg) → Args vs → Opt (λ (k : analysis.Misfit). Here img k.place) (analysis.misfit ps i vs)
  unfolding analysis.misfit
  misfit_said ps i [] h = tt
  misfit_said ps i (a ∷ vs) h = opt_pick _ _ _ _ h.0 (misfit_said ps (suc i) vs h.1)

  fits_said : (f : Name) (o : Option analysis.Misfit) (t : Typ) → Short f → ShortType t → Opt (λ (k : analysis.Misfit). Here img k.place) o → Said Q ShortType (analysis.fits f o t)
  unfolding analysis.fits
  fits_said f None t z g h = said_ok t g
  fits_said f (Some k) t z g h = said_bad (Refusal.arg_type k.place k.index f) (A.arg_type _ _ f h z)

  applied_said : (p : ℕ) (f : Name) (n : ℕ) (o : Option analysis.Misfit) (s : Option analysis.Sig) → Named img p f → Opt (λ (k : analysis.Misfit). Here img k.place) o
      → Opt (λ (s : analysis.Sig). ShortType s.ret) s → Said Q ShortType (analysis.applied p f n o s)
  unfolding analysis.applied analysis.fitted
  applied_said p f n o None h g z = said_bad (Refusal.no_function p f) (A.no_function p f h)
  applied_said p f n o (Some s) h g z = said_pick _ _ _ (fits_said f o s.ret h.short z g) (said_bad (Refusal.arg_count p f (length s.params) n) (A.arg_count p f _ _ h))

  init_said : (p : ℕ) (x : Name) (o : Option Typ) (t : Typ) → Named img p x → Said Q (Any (Unit {0})) (analysis.init_fits_lem p x o t)
  unfolding analysis.init_fits_lem
  init_said p x None t h = said_bad (Refusal.init_field p x) (A.init_field p x h)
  init_said p x (Some e) t h = said_unless _ _ _ (A.init_type p x h) tt

  field_said : (p : ℕ) (s x : Name) (o : Option Struct) → Here img p → Short s → Short x → Opt (λ (d : Struct). ShortTypes d.fields) o → Said Q ShortType (analysis.field_of p s x o)
  unfolding analysis.field_of
  field_said p s x None h g z d = said_ok _ tt
  field_said p s x (Some t) h g z d = said_known _ _ (A.no_field p s x h g z) (short_field x t d)

  access_said : (p : ℕ) (t : Typ) (x : Name) → Here img p → ShortType t → Short x → Said Q ShortType (analysis.access C p t x)
  unfolding analysis.access analysis.struct_named
  access_said p (Typ.struct s) x h g z =
      field_said p s x (last analysis.struct_name s C.structs) h g z (each_last (λ (d : Struct). ShortTypes d.fields) analysis.struct_name s C.structs S.structs)
  access_said p Typ.unknown x h g z = said_ok _ tt
  access_said p Typ.u64 x h g z = said_bad (Refusal.not_struct p) (A.not_struct p h)
  access_said p Typ.bool x h g z = said_bad (Refusal.not_struct p) (A.not_struct p h)
  access_said p Typ.field x h g z = said_bad (Refusal.not_struct p) (A.not_struct p h)
  access_said p Typ.void x h g z = said_bad (Refusal.not_struct p) (A.not_struct p h)

  mutual
    unfolding analysis.expr analysis.exprs analysis.inits Whole WholeExprs WholeInits

    type_said : (e : Expr) (Γ : Env) → Whole img e → ShortEnv Γ → Said Q ShortType (analysis.expr C e Γ)
    type_said (Expr.no-expr p) Γ h g = absurd h
    type_said (Expr.int p v) Γ h g = said_ok _ tt
    type_said (Expr.ident p x) Γ h g = said_known _ _ (A.undefined_name p x h) (short_find x Γ g)
    type_said (Expr.storage-read p x) Γ h g = said_ok _ tt
    type_said (Expr.mapping-read p x e) Γ h g = said_then _ _ (type_said e Γ h.1 g) (λ k u. said_ok _ tt)
    type_said (Expr.field-access p e x) Γ h g = said_then _ _ (type_said e Γ h.1 g) (λ t u. access_said p t x h.0 u h.2)
    type_said (Expr.literal p x is) Γ h g =
        said_then _ _ (said_found _ _ (A.no_struct p x h.0)) (λ s u. said_then _ _ (fields_said s is Γ h.2 g) (λ v w. said_ok _ h.0.short))
    type_said (Expr.binary p a o b) Γ h g =
        said_then _ _ (type_said a Γ h.1 g) (λ l u. said_then _ _ (type_said b Γ h.2 g) (λ r w. said_unless _ _ _ (A.operands p h.0) u))
    type_said (Expr.call p f es) Γ h g =
        said_then _ _ (types_said es Γ h.2 g) (λ vs u. applied_said p f _ _ _ h.0 (misfit_said _ 0 vs u) (short_signature C S f))

    types_said : (es : Exprs) (Γ : Env) → WholeExprs img es → ShortEnv Γ → Said Q Args (analysis.exprs C es Γ)
    types_said Exprs.none Γ h g = said_ok _ tt
    types_said (Exprs.more e es) Γ h g = said_then _ _ (type_said e Γ h.0 g) (λ t u. said_then _ _ (types_said es Γ h.1 g) (λ vs w. said_ok _ (own e h.0, w)))

    fields_said : (s : Struct) (is : Inits) (Γ : Env) → WholeInits img is → ShortEnv Γ → Said Q (Any (Unit {0})) (analysis.inits C s is Γ)
    fields_said s Inits.no-init Γ h g = said_ok _ tt
    fields_said s (Inits.init p x e is) Γ h g = said_then _ _ (type_said e Γ h.1 g) (λ t u. said_then _ _ (init_said p x _ t h.0) (λ w z. fields_said s is Γ h.2 g))

  module _ (ret : Typ) (R : ShortType ret) where
    mutual
      unfolding analysis.stmt analysis.stmts WholeStmt WholeStmts

      scope_said : (x : Stmt) (Γ : Env) → WholeStmt img x → ShortEnv Γ → Said Q ShortEnv (analysis.stmt C ret x Γ)
      scope_said (Stmt.no-stmt p) Γ h g = absurd h
      scope_said (Stmt.let-in p x e) Γ h g = said_then _ _ (type_said e Γ h.1 g) (λ t u. said_ok _ (u, g))
      scope_said (Stmt.constrain p e) Γ h g = said_then _ _ (type_said e Γ h.1 g) (λ t u. said_ok _ g)
      scope_said (Stmt.assign p x e) Γ h g =
          said_then _ _ (said_known _ _ (A.undefined_target p x h.0) (short_find x Γ g)) (λ a u.
          said_then _ _ (type_said e Γ h.1 g) (λ t w. said_unless _ _ _ (A.assign_type p a t h.0.here u w) g))
      scope_said (Stmt.storage-write p x e) Γ h g = said_then _ _ (type_said e Γ h.1 g) (λ t u. said_ok _ g)
      scope_said (Stmt.mapping-write p x e f) Γ h g = said_then _ _ (type_said e Γ h.1 g) (λ k u. said_then _ _ (type_said f Γ h.2 g) (λ t w. said_ok _ g))
      scope_said (Stmt.if-else p c t e) Γ h g = said_then _ _ (type_said c Γ h.1 g) (λ k u. said_then _ _ (scopes_said t Γ h.3 g) (λ Δ w. scopes_said e Δ h.5 w))
      scope_said (Stmt.while p c b) Γ h g = said_then _ _ (type_said c Γ h.1 g) (λ k u. scopes_said b Γ h.3 g)
      scope_said (Stmt.for p x e f b) Γ h g =
          said_then _ _ (type_said e Γ h.1 g) (λ k u. said_then _ _ (type_said f Γ h.2 g) (λ t w. said_then _ _ (scopes_said b _ h.4 (tt, g)) (λ Δ z. said_ok _ g)))
      scope_said (Stmt.return p e) Γ h g = said_then _ _ (type_said e Γ h.1 g) (λ t u. said_unless _ _ _ (A.return_type p ret t h.0 R u) g)
      scope_said (Stmt.return-none p) Γ h g = said_unless _ _ _ (A.return_type p ret Typ.void h R tt) g
      scope_said (Stmt.emits p x es) Γ h g = said_then _ _ (types_said es Γ h.2 g) (λ vs u. said_ok _ g)
      scope_said (Stmt.just p e) Γ h g = said_then _ _ (type_said e Γ h.1 g) (λ t u. said_ok _ g)

      scopes_said : (xs : Stmts) (Γ : Env) → WholeStmts img xs → ShortEnv Γ → Said Q ShortEnv (analysis.stmts C ret xs Γ)
      scopes_said Stmts.none Γ h g = said_ok _ g
      scopes_said (Stmts.more x xs) Γ h g = said_then _ _ (scope_said x Γ h.0 g) (λ Δ u. scopes_said xs Δ h.1 u)

  -- Rows 10 to 22.
  pub analysis_said : (fs : List Function) → Each (λ (f : Function). WholeFunction img f) fs → Said Q (Any (Unit {0})) (analysis.functions C fs)
  unfolding analysis.functions analysis.function
  analysis_said [] h = said_ok _ tt
  analysis_said (f ∷ fs) h =
      said_then {O = Any (Unit {0})} _ _ (said_then _ _ (scopes_said _ (short_ret f.ret h.0.ret) f.body _ h.0.stmts (short_params f.params [] h.0.types tt)) (λ Γ u. said_ok _ tt))
      (λ w z. analysis_said fs h.1)

-- Row 30.
module _ (img : List ℕ) (C : Contract) where
  mutual
    unfolding in_expr_lem in_exprs in_inits_lem Whole WholeExprs WholeInits

    expr_spot : (e : Expr) → Whole img e → Opt (Here img) (in_expr_lem C e)
    expr_spot (Expr.no-expr p) h = tt
    expr_spot (Expr.int p v) h = tt
    expr_spot (Expr.ident p x) h = tt
    expr_spot (Expr.storage-read p x) h = tt
    expr_spot (Expr.mapping-read p x e) h = expr_spot e h.1
    expr_spot (Expr.field-access p e x) h = opt_pick _ (is_ambiguous_lem C p x) _ _ h.0 (expr_spot e h.1)
    expr_spot (Expr.literal p x is) h = inits_spot is h.2
    expr_spot (Expr.binary p a o b) h = opt_or _ _ _ (expr_spot a h.1) (expr_spot b h.2)
    expr_spot (Expr.call p f es) h = exprs_spot es h.2

    exprs_spot : (es : Exprs) → WholeExprs img es → Opt (Here img) (in_exprs C es)
    exprs_spot Exprs.none h = tt
    exprs_spot (Exprs.more e es) h = opt_or _ _ _ (expr_spot e h.0) (exprs_spot es h.1)

    inits_spot : (is : Inits) → WholeInits img is → Opt (Here img) (in_inits_lem C is)
    inits_spot Inits.no-init h = tt
    inits_spot (Inits.init p x e is) h = opt_or _ _ _ (expr_spot e h.1) (inits_spot is h.2)

  mutual
    unfolding in_stmt_lem in_stmts WholeStmt WholeStmts

    stmt_spot : (x : Stmt) → WholeStmt img x → Opt (Here img) (in_stmt_lem C x)
    stmt_spot (Stmt.no-stmt p) h = tt
    stmt_spot (Stmt.let-in p x e) h = expr_spot e h.1
    stmt_spot (Stmt.constrain p e) h = expr_spot e h.1
    stmt_spot (Stmt.assign p x e) h = expr_spot e h.1
    stmt_spot (Stmt.storage-write p x e) h = expr_spot e h.1
    stmt_spot (Stmt.mapping-write p x e f) h = opt_or _ _ _ (expr_spot e h.1) (expr_spot f h.2)
    stmt_spot (Stmt.if-else p c t e) h = opt_or _ _ _ (expr_spot c h.1) (opt_or _ _ _ (stmts_spot t h.3) (stmts_spot e h.5))
    stmt_spot (Stmt.while p c b) h = opt_or _ _ _ (expr_spot c h.1) (stmts_spot b h.3)
    stmt_spot (Stmt.for p x e f b) h = opt_or _ _ _ (expr_spot e h.1) (opt_or _ _ _ (expr_spot f h.2) (stmts_spot b h.4))
    stmt_spot (Stmt.return p e) h = expr_spot e h.1
    stmt_spot (Stmt.return-none p) h = tt
    stmt_spot (Stmt.emits p x es) h = exprs_spot es h.2
    stmt_spot (Stmt.just p e) h = expr_spot e h.1

    stmts_spot : (xs : Stmts) → WholeStmts img xs → Opt (Here img) (in_stmts C xs)
    stmts_spot Stmts.none h = tt
    stmts_spot (Stmts.more x xs) h = opt_or _ _ _ (stmt_spot x h.0) (stmts_spot xs h.1)

  functions_spot : (fs : List Function) → Each (λ (f : Function). WholeFunction img f) fs → Opt (Here img) (in_functions C fs)
  unfolding in_functions
  functions_spot [] h = tt
  functions_spot (f ∷ fs) h = opt_or _ _ _ (stmts_spot f.body h.0.stmts) (functions_spot fs h.1)

  -- The first ambiguous access.
  pub clear_said : (Q : Refusal → Type 0) → AllowsFront img Q → Each (λ (f : Function). WholeFunction img f) C.functions → Said Q (Any (Unit {0})) (clear (first_ambiguous_lem C))
  unfolding clear first_ambiguous_lem
  clear_said Q A h = by (in_functions C C.functions) (functions_spot C.functions h)
    where
      by : (o : Option ℕ) → Opt (Here img) o → Said Q (Any (Unit {0})) (clear o)
      by None g = said_ok _ tt
      by (Some p) g = said_bad (Refusal.ambiguous p) (A.ambiguous p g)
