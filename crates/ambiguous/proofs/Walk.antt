-- The first answer of several.
--     then_first, then_second     of two: the first is one, or it is none
--     args-.., inits-.., stmts-..     of a List: none is left, this one is one, this one is none
--     functions-..     of the functions
--     no_ambiguous     where no field is ambiguous there is no answer
-- Assumes nothing.
use Rattle.std.specs.Prelude.{None, Option, Some}
use mathlib.Core.List.{List, [], ◌∷◌, map}
use mathlib.Core.Bool.{Bool, true, false}
use mathlib.Core.Path.{◌≡◌, refl, sym, ◌∙◌}
use Prim.Native.Nat.{ℕ, ◌+◌, ◌≤◌, ◌<◌}
use native.Mathlib.Numerals.{add-one}
use lib.Dec.{eqb}
use lib.ListN.{length, get_or, drop, drop_of_length-le}
use borrow.Author.Tests.{ne_eqb}
use lib.Seq.{drop-cons}
use Rattle.rules.specs.Bytes.{pick, Name}
use Rattle.rules.specs.Tables.{or_else}
use Rattle.rules.specs.Tree.{Expr, Exprs, Inits, Stmt, Stmts, Function, Contract}
use Rattle.rules.specs.Read.{kind_of, kInt, kIdent, kStorage, kOther, expr_as, stmt_at_lem, body_at, function_at, contract_at, second, fifth}
use Rattle.rules.specs.Ambiguous.{is_ambiguous_lem, in_expr_lem, in_exprs, in_inits_lem, in_stmt_lem, in_stmts, in_functions, first_ambiguous_lem}
use Rattle.before.specs.Old.{ambiguous_before}
use Rattle.before.specs.Meant.{still_clear}
use Rattle.tables.specs.Listed.{functions_in}
use Rattle.ambiguous.specs.Spots.{unsure}
use Rattle.bounds.specs.Lists.{exprs_of, inits_of, stmts_of}

pub then_first : {p : ℕ} {x : Option ℕ} (y : Option ℕ) → Some p ≡ x → Some p ≡ or_else x y
unfolding or_else
then_first y h = rw (← h)

pub then_second : (r : Option ℕ) {a : Option ℕ} {x y : Option ℕ} → a ≡ None → a ≡ x → r ≡ y → r ≡ or_else x y
unfolding or_else
then_second r q h k = rw (← h, q) k

pub else_else : (a b c : Option ℕ) → or_else (or_else a b) c ≡ or_else a (or_else b c)
unfolding or_else
else_else (Some a) b c = refl
else_else None b c = refl

-- Three in turn.
pub three : {t a r x : Option ℕ} (y z : Option ℕ) → t ≡ x → a ≡ or_else t y → r ≡ or_else a z → r ≡ or_else x (or_else y z)
three {t} {a} {r} {x} y z p q w = w ∙ rw (q, p) (else_else x y z)

pub else_none : (a : Option ℕ) → or_else a None ≡ a
unfolding or_else
else_none (Some a) = refl
else_none None = refl

-- The trees over some places.
module _ (C : Contract) {ps : List ℕ} where
  module _ (f : ℕ → Expr) where
    pub args_none : ps ≡ [] → None ≡ in_exprs C (exprs_of f ps)
    unfolding in_exprs exprs_of
    args_none h = rw h

    pub inits_none : (img : List ℕ) → ps ≡ [] → None ≡ in_inits_lem C (inits_of f img ps)
    unfolding in_inits_lem inits_of
    inits_none img h = rw h

    module _ {p : ℕ} {qs : List ℕ} (h : ps ≡ p ∷ qs) where
      pub args_here : {q : ℕ} → Some q ≡ in_expr_lem C (f p) → Some q ≡ in_exprs C (exprs_of f ps)
      unfolding in_exprs exprs_of
      args_here w = rw h (then_first _ w)

      pub args_next : {a : Option ℕ} → a ≡ None → a ≡ in_expr_lem C (f p) → in_exprs C (exprs_of f ps) ≡ in_exprs C (exprs_of f qs)
      unfolding in_exprs exprs_of or_else
      args_next q w = rw (h, ← w, q)

      pub inits_here : (img : List ℕ) {q : ℕ} → Some q ≡ in_expr_lem C (f (second img p)) → Some q ≡ in_inits_lem C (inits_of f img ps)
      unfolding in_inits_lem inits_of
      inits_here img w = rw h (then_first _ w)

      pub inits_next : (img : List ℕ) {a : Option ℕ} → a ≡ None → a ≡ in_expr_lem C (f (second img p)) → in_inits_lem C (inits_of f img ps) ≡ in_inits_lem C (inits_of f img qs)
      unfolding in_inits_lem inits_of or_else
      inits_next img q w = rw (h, ← w, q)

  module _ (f : ℕ → Stmt) where
    pub body_none : ps ≡ [] → None ≡ in_stmts C (stmts_of f ps)
    unfolding in_stmts stmts_of
    body_none h = rw h

    module _ {p : ℕ} {qs : List ℕ} (h : ps ≡ p ∷ qs) where
      pub body_here : {q : ℕ} → Some q ≡ in_stmt_lem C (f p) → Some q ≡ in_stmts C (stmts_of f ps)
      unfolding in_stmts stmts_of
      body_here w = rw h (then_first _ w)

      pub body_next : {a : Option ℕ} → a ≡ None → a ≡ in_stmt_lem C (f p) → in_stmts C (stmts_of f ps) ≡ in_stmts C (stmts_of f qs)
      unfolding in_stmts stmts_of or_else
      body_next q w = rw (h, ← w, q)

-- Expressions that hold no other.
module _ (C : Contract) (f : ℕ → Expr) (img : List ℕ) (i : ℕ) where
  leaf : (a b c : Bool) → None ≡ in_expr_lem C (expr_as (pick a kInt (pick b kIdent (pick c kStorage kOther))) f img i)
  unfolding in_expr_lem expr_as pick
  leaf true b c = refl
  leaf false true c = refl
  leaf false false true = refl
  leaf false false false = refl

  pub leaf_kind : (k : ℕ) → (k ≡ 67 → ⊥) → (k ≡ 68 → ⊥) → (k ≡ 69 → ⊥) → (k ≡ 70 → ⊥) → (k ≡ 71 → ⊥) → None ≡ in_expr_lem C (expr_as (kind_of k) f img i)
  unfolding kind_of pick
  leaf_kind k a b c d e = simp (ne_eqb k 67 a, ne_eqb k 68 b, ne_eqb k 69 c, ne_eqb k 70 d, ne_eqb k 71 e) (leaf (eqb k 64) (eqb k 65) (eqb k 66))

-- The functions from index i on.
unfoldable pub functions_from : List ℕ → ℕ → Option ℕ
functions_from img i = in_functions (contract_at img) (map (function_at img) (drop i (functions_in img)))

module _ (img : List ℕ) where
  pub functions_all : first_ambiguous_lem (contract_at img) ≡ functions_from img 0
  unfolding first_ambiguous_lem functions_from contract_at
  functions_all = refl

  module _ (i : ℕ) where
    pub functions_over : length (functions_in img) ≤ i → None ≡ functions_from img i
    unfolding functions_from in_functions
    functions_over h = rw (drop_of_length-le (functions_in img) h)

    module _ (h : i < length (functions_in img)) where
      pub functions_here : {q : ℕ} → Some q ≡ in_stmts (contract_at img) (body_at (stmt_at_lem 64 img) img (fifth img (get_or (functions_in img) i 0))) → Some q ≡ functions_from img i
      unfolding functions_from in_functions function_at
      functions_here w = rw (drop-cons (functions_in img) i 0 h) (then_first _ w)

      pub functions_next : {a : Option ℕ} → a ≡ None → a ≡ in_stmts (contract_at img) (body_at (stmt_at_lem 64 img) img (fifth img (get_or (functions_in img) i 0))) → functions_from img i ≡ functions_from img (i + 1)
      unfolding functions_from in_functions function_at or_else
      functions_next q w = rw (drop-cons (functions_in img) i 0 h, ← w, q, add-one)

-- Where no field is ambiguous there is no answer.
module _ (C : Contract) (clear : (x : Name) → unsure C x ≡ false) where
  -- 02: P2: nor then is an access.
  sure : (p : ℕ) (x : Name) → is_ambiguous_lem C p x ≡ false
  unfolding unsure
  sure p x = still_clear C p x (ambiguous_before C p x ∙ clear x)

  mutual
    unfolding in_expr_lem in_exprs in_inits_lem or_else pick

    no_expr : (e : Expr) → in_expr_lem C e ≡ None
    no_expr (Expr.no-expr p) = refl
    no_expr (Expr.int p v) = refl
    no_expr (Expr.ident p x) = refl
    no_expr (Expr.storage-read p x) = refl
    no_expr (Expr.mapping-read p x e) = no_expr e
    no_expr (Expr.field-access p e x) = rw (sure p x, no_expr e)
    no_expr (Expr.literal p x is) = no_inits is
    no_expr (Expr.binary p a o b) = rw (no_expr a, no_expr b)
    no_expr (Expr.call p f es) = no_exprs es

    no_exprs : (es : Exprs) → in_exprs C es ≡ None
    no_exprs Exprs.none = refl
    no_exprs (Exprs.more e es) = rw (no_expr e, no_exprs es)

    no_inits : (is : Inits) → in_inits_lem C is ≡ None
    no_inits Inits.no-init = refl
    no_inits (Inits.init p x e is) = rw (no_expr e, no_inits is)

  mutual
    unfolding in_stmt_lem in_stmts or_else

    no_stmt : (s : Stmt) → in_stmt_lem C s ≡ None
    no_stmt (Stmt.no-stmt p) = refl
    no_stmt (Stmt.let-in p x e) = no_expr e
    no_stmt (Stmt.constrain p e) = no_expr e
    no_stmt (Stmt.assign p x e) = no_expr e
    no_stmt (Stmt.storage-write p x e) = no_expr e
    no_stmt (Stmt.mapping-write p x e f) = rw (no_expr e, no_expr f)
    no_stmt (Stmt.if-else p c t e) = rw (no_expr c, no_stmts t, no_stmts e)
    no_stmt (Stmt.while p c b) = rw (no_expr c, no_stmts b)
    no_stmt (Stmt.for p x e f b) = rw (no_expr e, no_expr f, no_stmts b)
    no_stmt (Stmt.return p e) = no_expr e
    no_stmt (Stmt.return-none p) = refl
    no_stmt (Stmt.emits p x es) = no_exprs es
    no_stmt (Stmt.just p e) = no_expr e

    no_stmts : (ss : Stmts) → in_stmts C ss ≡ None
    no_stmts Stmts.none = refl
    no_stmts (Stmts.more s ss) = rw (no_stmt s, no_stmts ss)

  no_functions : (fs : List Function) → in_functions C fs ≡ None
  unfolding in_functions or_else
  no_functions [] = refl
  no_functions (f ∷ fs) = rw (no_stmts f.body, no_functions fs)

  pub no_ambiguous : None ≡ first_ambiguous_lem C
  unfolding first_ambiguous_lem
  no_ambiguous = sym (no_functions C.functions)
