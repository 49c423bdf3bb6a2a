-- Of an access that analysis accepts, a declared struct that is its base's has the field. So where all structs agree on the field, P2's
-- offset is the old one, and there is no 30.
-- Assumes nothing.
use Rattle.std.specs.Prelude.{◌≡◌, Bool, ℕ, ◌*◌, eqb, None, Option, Some}
use Rattle.std.proofs.Math.Path.{refl, sym, ap}
use Rattle.std.proofs.Common.{◌∙◌, subst}
use Rattle.std.proofs.Math.Bool.{true, false}
use mathlib.Core.List.{List, [], ◌∷◌}
use Rattle.rules.specs.Bytes.{pick, Name, eq_name, ◌and◌}
use Rattle.rules.specs.Tables.{first_index, mapped}
use Rattle.rules.specs.Tree.{Expr, Exprs, Inits, Stmt, Stmts, Struct, Function, Contract}
use Rattle.rules.specs.Types.{Typ, Env, with_name}
use Rattle.rules.specs.Refusal.{Refusal, Res, ok, bad, known}
use Rattle.rules.specs.Analyse as analysis
use Rattle.rules.specs.Analyse.{field_name}
use Rattle.rules.specs.Meant.{Access, behind, of_expr, of_exprs, of_inits, of_stmt, of_stmts, of_function, of_functions, accesses, base_at}
use Rattle.rules.specs.Layout.{layouts, with_position, positions, first_of, declared, among, choices, offset}
use Rattle.rules.specs.Ambiguous.{differs, apart, is_ambiguous_lem}
use Rattle.records.specs.Names.{name_eq, never}
use Rattle.bounds.specs.Held.{Opt, Each}
use Rattle.bounds.specs.Sparse.{each_append}
use Rattle.before.specs.Old.{unanalysed, offset_before, ambiguous_before}
use Rattle.before.specs.Fields.{some_none, agreed, of_declared, first_none}

-- Of what comes behind an answer, if it does for every answer.
each_behind : {A : Type 0} (P : Access → Type 0) (m : Res A) (f : A → List Access) → ((a : A) → m ≡ ok a → Each P (f a)) → Each P (behind m f)
unfolding behind
each_behind P (ok a) f h = h a refl
each_behind P (bad r) f h = tt

-- An answer is no refusal.
pub bad_ok : {A B : Type 0} (r : Refusal) (a : A) → bad r ≡ ok a → B
bad_ok r a h = never (ap test h)
  where
    test : {A : Type 0} → Res A → Bool
    test (ok a) = true
    test (bad r) = false

module _ (C : Contract) where
  -- The struct, if it is declared, has the field.
  Has : Access → Type 0
  Has a = (d : Struct) → declared C a.base ≡ Some d → first_index field_name 0 a.field d.fields ≡ None → ⊥

  -- 001: FieldAccess: analysis looked it up.
  accepted : (p : ℕ) (t : Typ) (x : Name) (u : Typ) → analysis.access C p t x ≡ ok u → (d : Struct) → declared C t ≡ Some d → first_index field_name 0 x d.fields ≡ None → ⊥
  unfolding analysis.access analysis.field_of analysis.field_type_lem declared known mapped
  accepted p (Typ.struct s) x u h d e n = bad_ok (Refusal.no_field p s x) u (sym was ∙ (rw e at h))
    where
      was : known (Refusal.no_field p s x) (analysis.field_type_lem x d) ≡ bad (Refusal.no_field p s x)
      was = rw (first_none 0 x d.fields n)
  accepted p Typ.u64 x u h d e n = some_none d (sym e)
  accepted p Typ.bool x u h d e n = some_none d (sym e)
  accepted p Typ.field x u h d e n = some_none d (sym e)
  accepted p Typ.void x u h d e n = some_none d (sym e)
  accepted p Typ.unknown x u h d e n = some_none d (sym e)

  mutual
    unfolding of_expr of_exprs of_inits Has

    expr_has : (e : Expr) (Γ : Env) → Each Has (of_expr C e Γ)
    expr_has (Expr.no-expr p) Γ = tt
    expr_has (Expr.int p v) Γ = tt
    expr_has (Expr.ident p x) Γ = tt
    expr_has (Expr.storage-read p x) Γ = tt
    expr_has (Expr.mapping-read p x e) Γ = expr_has e Γ
    expr_has (Expr.field-access p e x) Γ = each_append Has (of_expr C e Γ) _ (expr_has e Γ)
        (each_behind Has (analysis.expr C e Γ) _ (λ t m. each_behind Has (analysis.access C p t x) _ (λ u h. (accepted p t x u h, tt))))
    expr_has (Expr.literal p x is) Γ = inits_have is Γ
    expr_has (Expr.binary p a o b) Γ = each_append Has (of_expr C a Γ) _ (expr_has a Γ) (expr_has b Γ)
    expr_has (Expr.call p f es) Γ = exprs_have es Γ

    exprs_have : (es : Exprs) (Γ : Env) → Each Has (of_exprs C es Γ)
    exprs_have Exprs.none Γ = tt
    exprs_have (Exprs.more e es) Γ = each_append Has (of_expr C e Γ) _ (expr_has e Γ) (exprs_have es Γ)

    inits_have : (is : Inits) (Γ : Env) → Each Has (of_inits C is Γ)
    inits_have Inits.no-init Γ = tt
    inits_have (Inits.init p x e is) Γ = each_append Has (of_expr C e Γ) _ (expr_has e Γ) (inits_have is Γ)

  module _ (ret : Typ) where
    mutual
      unfolding of_stmt of_stmts

      stmt_has : (s : Stmt) (Γ : Env) → Each Has (of_stmt C ret s Γ)
      stmt_has (Stmt.no-stmt p) Γ = tt
      stmt_has (Stmt.let-in p x e) Γ = expr_has e Γ
      stmt_has (Stmt.constrain p e) Γ = expr_has e Γ
      stmt_has (Stmt.assign p x e) Γ = expr_has e Γ
      stmt_has (Stmt.storage-write p x e) Γ = expr_has e Γ
      stmt_has (Stmt.mapping-write p x e f) Γ = each_append Has (of_expr C e Γ) _ (expr_has e Γ) (expr_has f Γ)
      stmt_has (Stmt.if-else p c t e) Γ = each_append Has (of_expr C c Γ) _ (expr_has c Γ)
          (each_append Has (of_stmts C ret t Γ) _ (stmts_have t Γ) (each_behind Has (analysis.stmts C ret t Γ) _ (λ Δ m. stmts_have e Δ)))
      stmt_has (Stmt.while p c b) Γ = each_append Has (of_expr C c Γ) _ (expr_has c Γ) (stmts_have b Γ)
      stmt_has (Stmt.for p x e f b) Γ = each_append Has (of_expr C e Γ) _ (expr_has e Γ)
          (each_append Has (of_expr C f Γ) _ (expr_has f Γ) (stmts_have b (with_name x Typ.u64 Γ)))
      stmt_has (Stmt.return p e) Γ = expr_has e Γ
      stmt_has (Stmt.return-none p) Γ = tt
      stmt_has (Stmt.emits p x es) Γ = exprs_have es Γ
      stmt_has (Stmt.just p e) Γ = expr_has e Γ

      stmts_have : (ss : Stmts) (Γ : Env) → Each Has (of_stmts C ret ss Γ)
      stmts_have Stmts.none Γ = tt
      stmts_have (Stmts.more s ss) Γ = each_append Has (of_stmt C ret s Γ) _ (stmt_has s Γ) (each_behind Has (analysis.stmt C ret s Γ) _ (λ Δ m. stmts_have ss Δ))

  functions_have : (fs : List Function) → Each Has (of_functions C fs)
  unfolding of_function of_functions
  functions_have [] = tt
  functions_have (f ∷ fs) = each_append Has (of_stmts C _ f.body _) _ (stmts_have _ f.body _) (functions_have fs)

  -- So of the one that is found by its place and field.
  found_has : (p : ℕ) (x : Name) (l : List Access) → Each Has l → (d : Struct) → declared C (base_at p x l) ≡ Some d → first_index field_name 0 x d.fields ≡ None → ⊥
  unfolding base_at declared pick Has
  found_has p x [] h d e n = some_none d (sym e)
  found_has p x (a ∷ l) h d e n = by (eqb a.place p) (eq_name a.field x) refl e (λ g. found_has p x l h.1 d g n)
    where
      by : (b c : Bool) → eq_name a.field x ≡ c → declared C (pick (b and c) a.base (base_at p x l)) ≡ Some d → (declared C (base_at p x l) ≡ Some d → ⊥) → ⊥
      by true true q g r = h.0 d g (subst (λ (y : Name). first_index field_name 0 y d.fields ≡ None) (sym (name_eq a.field x q)) n)
      by true false q g r = r g
      by false c q g r = r g

  -- Of the struct that is meant.
  pub meant_has : (p : ℕ) (x : Name) (d : Struct) → declared C (base_at p x (accesses C)) ≡ Some d → first_index field_name 0 x d.fields ≡ None → ⊥
  unfolding accesses
  meant_has p x = found_has p x (accesses C) (functions_have C.functions)

  module _ (p : ℕ) (x : Name) (clear : is_ambiguous_lem (unanalysed C) p x ≡ false) where
    -- All structs.
    all : List ℕ
    all = positions x (layouts C.structs)

    -- The field of a declared struct stands where it stands in the first.
    stands : (t : Typ) (d : Struct) → declared C t ≡ Some d → Opt (λ k. first_of all ≡ k) (first_index field_name 0 x d.fields)
    unfolding declared all analysis.struct_named
    stands (Typ.struct s) d e = of_declared _ x s C.structs (agreed _ (sym (ambiguous_before C p x) ∙ clear)) d e
    stands Typ.u64 d e = some_none d (sym e)
    stands Typ.bool d e = some_none d (sym e)
    stands Typ.field d e = some_none d (sym e)
    stands Typ.void d e = some_none d (sym e)
    stands Typ.unknown d e = some_none d (sym e)

    -- One position, or all as before.
    settled : (o : Option Struct) → ((d : Struct) → o ≡ Some d → Opt (λ k. first_of all ≡ k) (first_index field_name 0 x d.fields))
        → ((d : Struct) → o ≡ Some d → first_index field_name 0 x d.fields ≡ None → ⊥)
        → (first_of (positions x (among o (layouts C.structs))) ≡ first_of all) × (apart (positions x (among o (layouts C.structs))) ≡ false)
    unfolding among all first_of with_position apart differs positions
    settled None h g = (refl, sym (ambiguous_before C p x) ∙ clear)
    settled (Some d) h g = by (first_index field_name 0 x d.fields) (h d refl) (g d refl)
      where
        by : (o : Option ℕ) → Opt (λ k. first_of all ≡ k) o → (o ≡ None → ⊥) → (first_of (with_position o []) ≡ first_of all) × (apart (with_position o []) ≡ false)
        by (Some k) q z = (sym q, refl)
        by None q z = absurd (z refl)

    both : (first_of (choices C p x) ≡ first_of all) × (apart (choices C p x) ≡ false)
    unfolding choices
    both = settled (declared C (base_at p x (accesses C))) (stands (base_at p x (accesses C))) (meant_has p x)

    -- The offset is the old one,
    pub offset_same : offset C p x ≡ offset (unanalysed C) p x
    unfolding offset all
    offset_same = ap (λ k. k * 8) both.0 ∙ sym (offset_before C p x)

    -- and there is no 30.
    pub still_clear : is_ambiguous_lem C p x ≡ false
    unfolding is_ambiguous_lem
    still_clear = both.1
