-- Where each access that analysis found has its base's declared struct, there is no 30 (02: P2): each that 30 looks at is among them.
-- Assumes nothing.
use Rattle.std.specs.Prelude.{◌≡◌, Bool, ℕ, eqb, None, Option, Some}
use Rattle.std.proofs.Math.Path.{refl, subst}
use Rattle.std.proofs.Common.{sym, eq-eqb}
use Rattle.std.proofs.Math.Bool.{true, false}
use mathlib.Core.List.{List, [], ◌∷◌, ◌++◌}
use Rattle.rules.specs.Bytes.{pick, Name, eq_name, ◌and◌, ◌or◌}
use Rattle.rules.specs.Tree.{Expr, Exprs, Inits, Stmt, Stmts, Struct, Function, Contract}
use Rattle.rules.specs.Types.{Typ, Env, with_name}
use Rattle.rules.specs.Refusal.{Res, ok, bad, ◌>>=◌, known}
use Rattle.rules.specs.Analyse as analysis
use Rattle.rules.specs.Meant.{Access, behind, of_expr, of_exprs, of_inits, of_stmt, of_stmts, of_function, of_functions, accesses, base_at}
use Rattle.rules.specs.Layout.{layouts, with_position, positions, declared, among, choices}
use Rattle.rules.specs.Ambiguous.{differs, apart, is_ambiguous_lem, in_expr_lem, in_exprs, in_inits_lem, in_stmt_lem, in_stmts, in_functions, first_ambiguous_lem}
use Rattle.records.specs.Names.{name_eq, name_refl, never}
use Rattle.bounds.specs.Held.{Each}
use Rattle.before.specs.Fields.{some_none}
use Rattle.before.specs.Meant.{bad_ok}
use Rattle.before.specs.Same.{both_none}
use Rattle.notes.specs.Notes.{spot_in_lem, spot_of}

-- Its base is of a declared struct, where its field stands at some position.
abbrev pub Sure : Contract → Access → Type 0
Sure C a = (k : ℕ) × (spot_of C a ≡ Some k)

-- Then that is the one position.
pub one_choice : (x : Name) (k : ℕ) (o : Option Struct) → spot_in_lem o x ≡ Some k → (l : List Struct) → positions x (among o l) ≡ (k ∷ [])
unfolding spot_in_lem among positions with_position
one_choice x k (Some d) e l = rw e
one_choice x k None e l = some_none k (sym e)

-- An access to x at p is in the list.
has : (p : ℕ) (x : Name) → List Access → Bool
has p x [] = false
has p x (a ∷ l) = (eqb a.place p and eq_name a.field x) or has p x l

-- Each that is in a part of a list is in the list.
later : (b c : Bool) → c ≡ true → (b or c) ≡ true
later true c h = refl
later false c h = h

itself : (a : Access) (l : List Access) → has a.place a.field (a ∷ l) ≡ true
unfolding has
itself a l = rw (eq-eqb a.place a.place refl, name_refl a.field)

each_has : (l k : List Access) → ((p : ℕ) (x : Name) → has p x l ≡ true → has p x k ≡ true) → Each (λ (a : Access). has a.place a.field k ≡ true) l
unfolding has
each_has [] k f = tt
each_has (a ∷ l) k f = (f a.place a.field (itself a l), each_has l k (λ p x h. f p x (later (eqb a.place p and eq_name a.field x) (has p x l) h)))

module _ (C : Contract) where
  -- What is found by its place and field has its position.
  found_sure : (p : ℕ) (x : Name) (l : List Access) → Each (Sure C) l → has p x l ≡ true → (k : ℕ) × (spot_in_lem (declared C (base_at p x l)) x ≡ Some k)
  unfolding base_at pick spot_of has
  found_sure p x [] h e = never e
  found_sure p x (a ∷ l) h e = by (eqb a.place p) (eq_name a.field x) refl e (found_sure p x l h.1)
    where
      by : (b c : Bool) → eq_name a.field x ≡ c → ((b and c) or has p x l) ≡ true → (has p x l ≡ true → (k : ℕ) × (spot_in_lem (declared C (base_at p x l)) x ≡ Some k))
          → (k : ℕ) × (spot_in_lem (declared C (pick (b and c) a.base (base_at p x l))) x ≡ Some k)
      by true true q g r = (h.0.0, subst (λ (y : Name). spot_in_lem (declared C a.base) y ≡ Some h.0.0) (name_eq a.field x q) h.0.1)
      by true false q g r = r g
      by false c q g r = r g

  -- It is not ambiguous.
  abbrev Clear : Access → Type 0
  Clear a = is_ambiguous_lem C a.place a.field ≡ false

  clear_one : (p : ℕ) (x : Name) (k : ℕ) → spot_in_lem (declared C (base_at p x (accesses C))) x ≡ Some k → is_ambiguous_lem C p x ≡ false
  unfolding is_ambiguous_lem choices apart differs
  clear_one p x k e = rw (one_choice x k (declared C (base_at p x (accesses C))) e (layouts C.structs))

  clear_each : Each (Sure C) (accesses C) → (l : List Access) → Each (λ (a : Access). has a.place a.field (accesses C) ≡ true) l → Each Clear l
  clear_each h [] g = tt
  clear_each h (a ∷ l) g =
      let s = found_sure a.place a.field (accesses C) h g.0 in
      (clear_one a.place a.field s.0 s.1, clear_each h l g.1)

-- An answer behind an answer.
then_ok : {A B : Type 0} (m : Res A) (f : A → Res B) (b : B) → (m >>= f) ≡ ok b → (a : A) × ((m ≡ ok a) × (f a ≡ ok b))
unfolding ◌>>=◌
then_ok (ok a) f b h = (a, (refl, h))
then_ok (bad r) f b h = bad_ok r b h

-- Both parts of a list.
each_parts : {A : Type 0} (P : A → Type 0) (l m : List A) → Each P (l ++ m) → Each P l × Each P m
each_parts P [] m h = (tt, h)
each_parts P (a ∷ l) m h = let g = each_parts P l m h.1 in ((h.0, g.0), g.1)

each_behind : {A : Type 0} (P : Access → Type 0) {m : Res A} {a : A} (f : A → List Access) → m ≡ ok a → Each P (behind m f) → Each P (f a)
unfolding behind
each_behind P f e h = rw e at h

module _ (C : Contract) where
  here_not : (p : ℕ) (b : Bool) (o : Option ℕ) → b ≡ false → o ≡ None → pick b (Some p) o ≡ None
  unfolding pick
  here_not p b o e h = rw (e, h)

  mutual
    unfolding analysis.expr analysis.exprs analysis.inits of_expr of_exprs of_inits in_expr_lem in_exprs in_inits_lem

    expr_none : (e : Expr) (Γ : Env) (t : Typ) → analysis.expr C e Γ ≡ ok t → Each (Clear C) (of_expr C e Γ) → in_expr_lem C e ≡ None
    expr_none (Expr.no-expr p) Γ t h c = refl
    expr_none (Expr.int p v) Γ t h c = refl
    expr_none (Expr.ident p x) Γ t h c = refl
    expr_none (Expr.storage-read p x) Γ t h c = refl
    expr_none (Expr.mapping-read p x e) Γ t h c = let g = then_ok _ _ _ h in expr_none e Γ g.0 g.1.0 c
    expr_none (Expr.field-access p e x) Γ t h c =
        let g = then_ok (analysis.expr C e Γ) _ t h in
        let k = each_parts (Clear C) (of_expr C e Γ) _ c in
        here_not p _ _ (each_behind (Clear C) _ g.1.1 (each_behind (Clear C) _ g.1.0 k.1)).0 (expr_none e Γ g.0 g.1.0 k.0)
    expr_none (Expr.literal p x is) Γ t h c =
        let g = then_ok (known _ (analysis.struct_named C x)) _ t h in
        let k = then_ok (analysis.inits C g.0 is Γ) _ t g.1.1 in
        inits_none g.0 is Γ k.0 k.1.0 c
    expr_none (Expr.binary p a o b) Γ t h c =
        let g = then_ok (analysis.expr C a Γ) _ t h in
        let f = then_ok (analysis.expr C b Γ) _ t g.1.1 in
        let k = each_parts (Clear C) (of_expr C a Γ) _ c in
        both_none (expr_none a Γ g.0 g.1.0 k.0) (expr_none b Γ f.0 f.1.0 k.1)
    expr_none (Expr.call p f es) Γ t h c = let g = then_ok (analysis.exprs C es Γ) _ t h in exprs_none es Γ g.0 g.1.0 c

    exprs_none : (es : Exprs) (Γ : Env) (vs : List analysis.Arg) → analysis.exprs C es Γ ≡ ok vs → Each (Clear C) (of_exprs C es Γ) → in_exprs C es ≡ None
    exprs_none Exprs.none Γ vs h c = refl
    exprs_none (Exprs.more e es) Γ vs h c =
        let g = then_ok (analysis.expr C e Γ) _ vs h in
        let f = then_ok (analysis.exprs C es Γ) _ vs g.1.1 in
        let k = each_parts (Clear C) (of_expr C e Γ) _ c in
        both_none (expr_none e Γ g.0 g.1.0 k.0) (exprs_none es Γ f.0 f.1.0 k.1)

    inits_none : (s : Struct) (is : Inits) (Γ : Env) (u : Unit {0}) → analysis.inits C s is Γ ≡ ok u → Each (Clear C) (of_inits C is Γ) → in_inits_lem C is ≡ None
    inits_none s Inits.no-init Γ u h c = refl
    inits_none s (Inits.init p x e is) Γ u h c =
        let g = then_ok (analysis.expr C e Γ) _ u h in
        let f = then_ok (analysis.init_fits_lem p x (analysis.field_type_lem x s) g.0) _ u g.1.1 in
        let k = each_parts (Clear C) (of_expr C e Γ) _ c in
        both_none (expr_none e Γ g.0 g.1.0 k.0) (inits_none s is Γ u f.1.1 k.1)

  module _ (ret : Typ) where
    mutual
      unfolding analysis.stmt analysis.stmts of_stmt of_stmts in_stmt_lem in_stmts

      stmt_none : (s : Stmt) (Γ Δ : Env) → analysis.stmt C ret s Γ ≡ ok Δ → Each (Clear C) (of_stmt C ret s Γ) → in_stmt_lem C s ≡ None
      stmt_none (Stmt.no-stmt p) Γ Δ h c = refl
      stmt_none (Stmt.let-in p x e) Γ Δ h c = let g = then_ok (analysis.expr C e Γ) _ Δ h in expr_none e Γ g.0 g.1.0 c
      stmt_none (Stmt.constrain p e) Γ Δ h c = let g = then_ok (analysis.expr C e Γ) _ Δ h in expr_none e Γ g.0 g.1.0 c
      stmt_none (Stmt.assign p x e) Γ Δ h c =
          let f = then_ok (known _ _) _ Δ h in
          let g = then_ok (analysis.expr C e Γ) _ Δ f.1.1 in
          expr_none e Γ g.0 g.1.0 c
      stmt_none (Stmt.storage-write p x e) Γ Δ h c = let g = then_ok (analysis.expr C e Γ) _ Δ h in expr_none e Γ g.0 g.1.0 c
      stmt_none (Stmt.mapping-write p x e f) Γ Δ h c =
          let g = then_ok (analysis.expr C e Γ) _ Δ h in
          let j = then_ok (analysis.expr C f Γ) _ Δ g.1.1 in
          let k = each_parts (Clear C) (of_expr C e Γ) _ c in
          both_none (expr_none e Γ g.0 g.1.0 k.0) (expr_none f Γ j.0 j.1.0 k.1)
      stmt_none (Stmt.if-else p q t e) Γ Δ h c =
          let g = then_ok (analysis.expr C q Γ) _ Δ h in
          let j = then_ok (analysis.stmts C ret t Γ) _ Δ g.1.1 in
          let k = each_parts (Clear C) (of_expr C q Γ) _ c in
          let i = each_parts (Clear C) (of_stmts C ret t Γ) _ k.1 in
          both_none (expr_none q Γ g.0 g.1.0 k.0) (both_none (stmts_none t Γ j.0 j.1.0 i.0) (stmts_none e j.0 Δ j.1.1 (each_behind (Clear C) _ j.1.0 i.1)))
      stmt_none (Stmt.while p q b) Γ Δ h c =
          let g = then_ok (analysis.expr C q Γ) _ Δ h in
          let k = each_parts (Clear C) (of_expr C q Γ) _ c in
          both_none (expr_none q Γ g.0 g.1.0 k.0) (stmts_none b Γ Δ g.1.1 k.1)
      stmt_none (Stmt.for p x e f b) Γ Δ h c =
          let g = then_ok (analysis.expr C e Γ) _ Δ h in
          let j = then_ok (analysis.expr C f Γ) _ Δ g.1.1 in
          let r = then_ok (analysis.stmts C ret b (with_name x Typ.u64 Γ)) _ Δ j.1.1 in
          let k = each_parts (Clear C) (of_expr C e Γ) _ c in
          let i = each_parts (Clear C) (of_expr C f Γ) _ k.1 in
          both_none (expr_none e Γ g.0 g.1.0 k.0) (both_none (expr_none f Γ j.0 j.1.0 i.0) (stmts_none b (with_name x Typ.u64 Γ) r.0 r.1.0 i.1))
      stmt_none (Stmt.return p e) Γ Δ h c = let g = then_ok (analysis.expr C e Γ) _ Δ h in expr_none e Γ g.0 g.1.0 c
      stmt_none (Stmt.return-none p) Γ Δ h c = refl
      stmt_none (Stmt.emits p x es) Γ Δ h c = let g = then_ok (analysis.exprs C es Γ) _ Δ h in exprs_none es Γ g.0 g.1.0 c
      stmt_none (Stmt.just p e) Γ Δ h c = let g = then_ok (analysis.expr C e Γ) _ Δ h in expr_none e Γ g.0 g.1.0 c

      stmts_none : (ss : Stmts) (Γ Δ : Env) → analysis.stmts C ret ss Γ ≡ ok Δ → Each (Clear C) (of_stmts C ret ss Γ) → in_stmts C ss ≡ None
      stmts_none Stmts.none Γ Δ h c = refl
      stmts_none (Stmts.more s ss) Γ Δ h c =
          let g = then_ok (analysis.stmt C ret s Γ) _ Δ h in
          let k = each_parts (Clear C) (of_stmt C ret s Γ) _ c in
          both_none (stmt_none s Γ g.0 g.1.0 k.0) (stmts_none ss g.0 Δ g.1.1 (each_behind (Clear C) _ g.1.0 k.1))

  functions_none : (fs : List Function) → analysis.functions C fs ≡ ok tt → Each (Clear C) (of_functions C fs) → in_functions C fs ≡ None
  unfolding analysis.functions analysis.function of_functions of_function in_functions
  functions_none [] h c = refl
  functions_none (f ∷ fs) h c =
      let g = then_ok (analysis.function C f) _ tt h in
      let j = then_ok (analysis.stmts C (analysis.ret_type f.ret) f.body (analysis.with_params f.params [])) _ _ g.1.0 in
      let k = each_parts (Clear C) (of_function C f) _ c in
      both_none (stmts_none _ f.body _ j.0 j.1.0 k.0) (functions_none fs g.1.1 k.1)

  -- 02: P2: no 30 where every access has its struct.
  pub sure_clear : analysis.analyse C ≡ ok tt → Each (Sure C) (accesses C) → first_ambiguous_lem C ≡ None
  unfolding analysis.analyse accesses first_ambiguous_lem
  sure_clear h s = functions_none C.functions h (clear_each C s (accesses C) (each_has (accesses C) (accesses C) (λ p x e. e)))
