-- What a step down from a statement, or from a List of them, comes to (02: P5). The array s' holds the scope that the part starts with.
--     Counted, CountedAll, CountedElse      what counting leaves
--     Blocks       the spot of a word in a List of statements
--     Ends         what is known of the spot a once the step is known: the step's own, or what its part says
--     Loops        behind the condition of a loop
--     Moves        a step from a statement of a kind; Steps: of any
--     Reaches      a step from a List to its statement; Falls: to the statement's part
-- Assumes nothing.
use Rattle.std.specs.Prelude.{◌≡◌, true, false, List, ℕ, suc, ◌+◌, ◌-◌, ◌≤◌, ◌<◌, leb}
use Rattle.rules.specs.Read.{expr_at, StmtKind, stmt_at_lem, body_at, contract_at}
use Rattle.bounds.specs.Sizes.{vars, vars-stmts}
use Rattle.emit.specs.declared.St.{St}
use Rattle.emit.specs.declared.Rules.{Rules}
use Rattle.emit.specs.Steps.{gen_stmt_lem, gen_stmts_lem}
use Rattle.emit.specs.State.{rules_of, tally, Keeps}
use Rattle.expr.specs.Scope.{scope_in}
use Rattle.stmt.specs.Frame.{Ready, Frame}
use Rattle.stmt.specs.Runs.{here, taken, Opens}
use Rattle.seek.specs.declared.Spot.{Spot}
use Rattle.seek.specs.declared.Step.{Step}
use Rattle.seek.specs.declared.Way.TheVariants as way
use Rattle.seek.specs.Goes.{Goes}
use Rattle.seek.specs.Found.{Found}
use Rattle.seek.specs.Spots.{told, owned, leaping, spot_in_lem, Finds}

-- block, stmt_at
abbrev pub entering : (list end : ℕ) → St → Step
entering l e s = record { place = l; way = way.Block; to = e; st = s }

abbrev pub within : (place end : ℕ) → St → Step
within p e s = record { place = p; way = way.Stmt; to = e; st = s }

-- count_stmt
pub record Counted (R : Rules) (img : List ℕ) (d i : ℕ) (st : St) (s : List ℕ) (r : St) (s' : List ℕ) : Type 0 where
  pub goes : Goes (tally st) (tally r) (here (scope_in img s') r.next) (gen_stmt_lem (rules_of R) (contract_at img) (stmt_at_lem d img i) (scope_in img s) st.next)
  pub frame : Frame s s' (vars (stmt_at_lem d img i))

-- count_stmts
pub record CountedAll (R : Rules) (img : List ℕ) (d l : ℕ) (st : St) (s : List ℕ) (r : St) (s' : List ℕ) : Type 0 where
  pub goes : Goes (tally st) (tally r) (here (scope_in img s') r.next) (gen_stmts_lem (rules_of R) (contract_at img) (body_at (stmt_at_lem d img) img l) (scope_in img s) st.next)
  pub frame : Frame s s' (vars-stmts (body_at (stmt_at_lem d img) img l))
  pub grows : st.n ≤ r.n

-- count_else
pub data CountedElse (R : Rules) (img : List ℕ) (d l e : ℕ) (st : St) (s : List ℕ) (r : St) (s' : List ℕ) : Type 0 where
  other : l < e → CountedAll R img d l st s r s' → CountedElse R img d l e st s r s'
  none : e ≤ l → r ≡ st → s' ≡ s → CountedElse R img d l e st s r s'

-- a is the spot of word number `want`, in the List of statements at l, which ends before word number `end`
pub record Blocks (img s : List ℕ) (R : Rules) (d l : ℕ) (st : St) (end want : ℕ) (a : Spot) : Type 0 where
  pub found : Found (told img want) (gen_stmts_lem (rules_of R) (contract_at img) (body_at (stmt_at_lem d img) img l) (scope_in img s) st.next) (tally st) end want a

pub data Ends (img s : List ℕ) (R : Rules) (d want : ℕ) (r : Step) (a : Spot) : Type 0 where
  owns : (r.way ≡ way.Value → ⊥) → (r.way ≡ way.Block → ⊥) → spot_in_lem r ≡ a → Ends img s R d want r a
  value : r.way ≡ way.Value → Finds img s R (expr_at d img r.place) r.st r.to want a → Ends img s R d want r a
  block : r.way ≡ way.Block → Blocks img s R d r.place r.st r.to want a → Ends img s R d want r a

-- in_loop: the two jumps, the k words behind the block, or the block
pub data Loops (i l next k : ℕ) (v : St) (end want : ℕ) (r : Step) : Type 0 where
  jnz : (j a : St) → Keeps v j → Opens j a next → want < j.n → r ≡ leaping i a.n v → Loops i l next k v end want r
  jmp : (j a : St) → Keeps v j → Opens j a next → j.n ≤ want → want < a.n → r ≡ leaping i end v → Loops i l next k v end want r
  back : (j a : St) → Keeps v j → Opens j a next → a.n ≤ want → leb end (want + k) ≡ true → r ≡ owned i v → Loops i l next k v end want r
  body : (j a : St) → Keeps v j → Opens j a next → a.n ≤ want → leb end (want + k) ≡ false → r ≡ entering l (end - k) a → Loops i l next k v end want r

-- in_if, ..: from the record at i, taken as a statement of a kind, whose parts are d records deep at most
pub record Moves (img t N s s' : List ℕ) (R : Rules) (d : ℕ) (K : StmtKind) (i : ℕ) (st : St) (end want : ℕ) (r : Step) : Type 0 where
  pub leads : (a : Spot) → Ends img s' R d want r a → Found (told img want) (gen_stmt_lem (rules_of R) (contract_at img) (taken K d img i) (scope_in img s) st.next) (tally st) end want a
  pub ready : r.way ≡ way.Block → Ready img t N s' (vars-stmts (body_at (stmt_at_lem d img) img r.place))

-- step_stmt: by its own kind
pub record Steps (img t N s s' : List ℕ) (R : Rules) (d i : ℕ) (st : St) (end want : ℕ) (r : Step) : Type 0 where
  pub leads : (a : Spot) → Ends img s' R d want r a → Found (told img want) (gen_stmt_lem (rules_of R) (contract_at img) (stmt_at_lem (suc d) img i) (scope_in img s) st.next) (tally st) end want a
  pub ready : r.way ≡ way.Block → Ready img t N s' (vars-stmts (body_at (stmt_at_lem d img) img r.place))

-- step_block: a statement of the List, or none: then there is no such word
pub record Reaches (img t N s s' : List ℕ) (R : Rules) (d l : ℕ) (st : St) (end want : ℕ) (r : Step) : Type 0 where
  pub leads : (a : Spot) → r.way ≡ way.Stmt → Found (told img want) (gen_stmt_lem (rules_of R) (contract_at img) (stmt_at_lem d img r.place) (scope_in img s') r.st.next) (tally r.st) r.to want a
      → Blocks img s R d l st end want a
  pub ready : r.way ≡ way.Stmt → Ready img t N s' (vars (stmt_at_lem d img r.place))
  pub absent : (a : Spot) → (r.way ≡ way.Stmt → ⊥) → Blocks img s R d l st end want a

-- step_list: from the List that b leads to
pub record Falls (img t N s s' : List ℕ) (R : Rules) (d : ℕ) (b : Step) (want : ℕ) (r : Step) : Type 0 where
  pub leads : (a : Spot) → Ends img s' R (d - 1) want r a → Blocks img s R d b.place b.st b.to want a
  pub ready : r.way ≡ way.Block → Ready img t N s' (vars-stmts (body_at (stmt_at_lem (d - 1) img) img r.place))
