-- What the code of a statement is to do: from the names in scope that an array holds it reaches others, as the definition says.
--     stmt_of, body_of, else_of   what is read at a place
--     Stepped, Step, Steps     the array, the cells in use, the answer and the notes
--     Bound                    the parameters of a function
-- Assumes nothing.
use Rattle.std.specs.Prelude.{List, map, ◌≡◌, ℕ, ◌+◌, ◌*◌, ◌≤◌, ◌<◌, length, get_or, Err, Ok, Result}
use Rattle.rules.specs.Bytes.{Name}
use Rattle.rules.specs.Tree.{Expr, Stmt, Stmts, Function, Contract}
use Rattle.rules.specs.Types.{Typ, Env, with_name}
use Rattle.rules.specs.Refusal.{Res, ok, bad, ◌>>=◌}
use Rattle.rules.specs.Analyse.{expr, stmt, stmts, with_params}
use Rattle.rules.specs.Read.{StmtKind, expr_at, stmt_as, stmt_at_lem, body_at, else_at, contract_at, field_at}
use Rattle.bounds.specs.Sizes.{vars, vars-stmts}
use Rattle.lookup.specs.declared.Fault.{Fault}
use Rattle.lookup.specs.Answers.{fault_of, env_of}
use Rattle.rules.specs.Meant.{Access, of_stmt, of_stmts}
use Rattle.notes.specs.Notes.{Wrote}

-- the record at i taken as one of a kind, d records deep at most below it
abbrev pub stmt_of : StmtKind → ℕ → List ℕ → ℕ → Stmt
stmt_of K d img i = stmt_as K (expr_at d img) (stmt_at_lem d img) img i

-- the statements of the List at l; those of an else, if there is one before e
abbrev pub body_of : ℕ → List ℕ → ℕ → Stmts
body_of d img l = body_at (stmt_at_lem d img) img l

abbrev pub else_of : ℕ → List ℕ → ℕ → ℕ → Stmts
else_of d img l e = else_at (stmt_at_lem d img) img l e

unfoldable pub after_of : List ℕ → List ℕ → Result ℕ Fault → Res Env
after_of img e (Ok k) = ok (env_of img e k)
after_of img e (Err f) = bad (fault_of img f)

unfoldable pub Within : ℕ → ℕ → Result ℕ Fault → Type 0
Within a b (Ok k) = (a ≤ k) × (k ≤ b)
Within a b (Err f) = Unit {0}

-- the array e, in use up to top, becomes e': below top it is as it was, and at most 2 times m cells more are in use; the notes N become N', with
-- those of the accesses l, if there is no refusal (02: P2)
pub record Stepped (img e e' N N' : List ℕ) (top m : ℕ) (r : Result ℕ Fault) (o : Res Env) (l : List Access) : Type 0 where
  pub answer : after_of img e' r ≡ o
  pub within : Within top (top + 2 * m) r
  pub kept : (i : ℕ) → i < top → get_or e' i 0 ≡ get_or e i 0
  pub size : length e' ≡ length e
  pub notes : Wrote (contract_at img) N N' l (after_of img e' r)

abbrev pub Step : (img e e' N N' : List ℕ) (top : ℕ) (r : Result ℕ Fault) (R : Typ) → Stmt → Type 0
Step img e e' N N' top r R s = Stepped img e e' N N' top (vars s) r (stmt (contract_at img) R s (env_of img e top)) (of_stmt (contract_at img) R s (env_of img e top))

abbrev pub Steps : (img e e' N N' : List ℕ) (top : ℕ) (r : Result ℕ Fault) (R : Typ) → Stmts → Type 0
Steps img e e' N N' top r R ss = Stepped img e e' N N' top (vars-stmts ss) r (stmts (contract_at img) R ss (env_of img e top)) (of_stmts (contract_at img) R ss (env_of img e top))

-- an expression alone
unfoldable pub only : Contract → Expr → Env → Res Env
only C e Γ = do
  t ← expr C e Γ
  ok Γ

-- the body of a For; its names are dropped
unfoldable pub in_loop : Contract → Typ → Name → Stmts → Env → Res Env
in_loop C R x b Γ = do
  Δ ← stmts C R b (with_name x Typ.u64 Γ)
  ok Γ

-- the parameters at some places
pub record Bound (img e e' : List ℕ) (top : ℕ) (ps : List ℕ) (r : ℕ) : Type 0 where
  pub next : r ≡ top + 2 * length ps
  pub more : env_of img e' r ≡ with_params (map (field_at img) ps) (env_of img e top)
  pub size : length e' ≡ length e

-- the names of a function: its parameters, Lets and Fors
abbrev pub names : Function → ℕ
names f = length f.params + vars-stmts f.body
