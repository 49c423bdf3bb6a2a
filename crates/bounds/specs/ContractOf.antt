-- The contract of a checked image: nothing of it is cut, no record falls back, no function has more than 512 names, and it has no more
-- records than bytes by six.
-- Assumes nothing.
use Rattle.std.specs.Prelude.{List, ℕ, ◌+◌, ◌*◌, ◌≤◌, length}
use Rattle.rules.specs.Tree.{Struct, Function, Contract}
use Rattle.rules.specs.Types.{Typ, Env}
use Rattle.rules.specs.Meant.{of_stmts, of_functions}
use Rattle.rules.specs.Read.{second, third, fourth, places_in, contract_at}
use Rattle.bounds.specs.Held.{Each}
use Rattle.bounds.specs.Sizes.{nodes_function, nodes_functions, vars-stmts}
use Rattle.bounds.specs.Whole.{Reads, Complete, ShortTypes, WholeFunction}
use Rattle.bounds.specs.Sparse.{Sparse}

-- The parameters of a List: none is cut.
pub record Params (img : List ℕ) (p e v m : ℕ) (ps : List ℕ) : Type 0 where
  pub small : p + 6 * length ps ≤ e
  pub reads : Reads img e p ps
  pub count : v + length ps ≤ m

-- A function that stands from p to e.
pub record GoodFunction (img : List ℕ) (p e : ℕ) (f : Function) : Type 0 where
  pub small : p + 6 * nodes_function f ≤ e
  pub whole : WholeFunction img f
  pub names : length f.params + vars-stmts f.body ≤ 512
  pub marks : (C : Contract) (ret : Typ) (Γ : Env) → Sparse img p e (of_stmts C ret f.body Γ)

-- The functions of a List.
pub record GoodFunctions (img : List ℕ) (p e : ℕ) (fs : List Function) : Type 0 where
  pub small : p + 6 * nodes_functions fs ≤ e
  pub whole : Each (λ (f : Function). WholeFunction img f) fs
  pub names : Each (λ (f : Function). length f.params + vars-stmts f.body ≤ 512) fs
  pub marks : (C : Contract) → Sparse img p e (of_functions C fs)

-- What the check of an image comes to.
pub record ContractGood (img : List ℕ) : Type 0 where
  pub storage : Complete 256 img (second img 0)
  pub structs : Complete 64 img (third img 0)
  pub fields : Each (λ p. Complete 64 img (second img p)) (places_in 64 img (third img 0))
  pub types : Each (λ (s : Struct). ShortTypes s.fields) (contract_at img).structs
  pub functions : Complete 256 img (fourth img 0)
  pub good : GoodFunctions img 0 (length img) (contract_at img).functions

-- An image that passes the check is 65,536 bytes long at most, and no List of it is cut.
pub record Uncut (img : List ℕ) : Type 0 where
  pub bytes : length img ≤ 65536
  pub storage : Complete 256 img (second img 0)
  pub structs : Complete 64 img (third img 0)
  pub fields : Each (λ p. Complete 64 img (second img p)) (places_in 64 img (third img 0))
  pub types : Each (λ (s : Struct). ShortTypes s.fields) (contract_at img).structs
  pub functions : Complete 256 img (fourth img 0)
