-- What the code of an expression is to do.
-- Assumes nothing.
use Rattle.std.specs.Prelude.{List, ◌≡◌, ℕ, Result}
use Rattle.rules.specs.Tree.{Expr}
use Rattle.rules.specs.Meant.{of_expr}
use Rattle.rules.specs.Analyse.{expr}
use Rattle.rules.specs.Read.{Kind, expr_as, expr_at, contract_at}
use Rattle.lookup.specs.declared.Ty.{Ty}
use Rattle.lookup.specs.declared.Fault.{Fault}
use Rattle.lookup.specs.Answers.{env_of, typed_of}
use Rattle.notes.specs.Notes.{Wrote}

-- the record at i taken as one of a kind, d records deep at most below it
abbrev pub expr_of : Kind → ℕ → List ℕ → ℕ → Expr
expr_of K d img i = expr_as K (expr_at d img) img i

-- the type of an expression, or its first refusal, with the names that the array e holds up to top; and the notes of its accesses
abbrev pub Gives : (img e N N' : List ℕ) (top : ℕ) → Result Ty Fault → Expr → Type 0
Gives img e N N' top r x = (typed_of img r ≡ expr (contract_at img) x (env_of img e top)) × Wrote (contract_at img) N N' (of_expr (contract_at img) x (env_of img e top)) (typed_of img r)
