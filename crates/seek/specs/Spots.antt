-- What the walk says of a word, and what a step down comes to (02: P5).
--     spot_of      the record that the word is of, whether it was patched, and where its offset leads
--     Ans         what is known of the spot a once the step is known: the step's own, or what its part says
--     Row         one part, and the words of the record behind it
--     Listed      the parts of a list
--     Leads       a step from an expression of a kind; Steps: of any; Calls: from a call
-- Assumes nothing.
use Rattle.std.specs.Prelude.{◌≡◌, true, false, List, ℕ, suc, ◌%◌, ◌≤◌, ◌<◌, Option}
use Rattle.rules.specs.Tree.{Function, Contract, Expr, Exprs, Inits}
use Rattle.rules.specs.Tables.{last_index}
use Rattle.rules.specs.Read.{Kind, expr_as, expr_at, name_in, contract_at}
use Rattle.rules.specs.Refusal.{Res}
use Rattle.rules.specs.Builtins.{Builtin}
use Rattle.rules.specs.Emit.{Open, word, calls, AtReg}
use Rattle.rules.specs.Why.{landing}
use Rattle.emit.specs.declared.St.{St}
use Rattle.emit.specs.declared.Rules.{Rules}
use Rattle.emit.specs.Steps.{Out, ◌>>=◌, at, Regs, gen, gens, gen_inits, gen_call}
use Rattle.emit.specs.Ran.{or_first, Tally, Sums}
use Rattle.emit.specs.State.{rules_of, tally}
use Rattle.expr.specs.Scope.{scope_in}
use Rattle.expr.specs.Made.{args_at_lem}
use Rattle.seek.specs.declared.Spot.{Spot}
use Rattle.seek.specs.declared.Step.{Step}
use Rattle.seek.specs.declared.Way.TheVariants as way
use Rattle.seek.specs.Goes.{Goes}
use Rattle.seek.specs.Found.{Found}

abbrev pub plain : ℕ → Spot
plain p = record { place = p; way = way.Plain; to = 0 }

abbrev pub ahead : (place to : ℕ) → Spot
ahead p t = record { place = p; way = way.Ahead; to = t }

abbrev pub called : (place function : ℕ) → Spot
called p i = record { place = p; way = way.Calls; to = i }

-- 000: patch_jump, of the word at index i: a jump leads to a word, a call to the last function of its name
unfoldable pub spot_of : Contract → (own : ℕ) → Open → Spot
spot_of C i (word p false w) = plain p
spot_of C i (word p true w) = ahead p (landing i w.imm)
spot_of C i (calls p f) = called p (or_first (last_index (λ (g : Function). g.name) 0 f C.functions))

-- Of an image's contract.
abbrev pub told : List ℕ → (own : ℕ) → Open → Spot
told img i = spot_of (contract_at img) i

-- own, jump, call, value
abbrev pub owned : ℕ → St → Step
owned p s = record { place = p; way = way.Plain; to = 0; st = s }

abbrev pub leaping : (place to : ℕ) → St → Step
leaping p t s = record { place = p; way = way.Ahead; to = t; st = s }

abbrev pub calling : (place function : ℕ) → St → Step
calling p i s = record { place = p; way = way.Calls; to = i; st = s }

abbrev pub into : (place end : ℕ) → St → Step
into p e s = record { place = p; way = way.Value; to = e; st = s }

abbrev pub spot_in_lem : Step → Spot
spot_in_lem r = record { place = r.place; way = r.way; to = r.to }

-- The steps of an expression, of arguments, of a literal's values, from a state on.
abbrev pub steps : (img scope : List ℕ) → Rules → Expr → St → Res (Out AtReg)
steps img scope R e st = gen (rules_of R) (contract_at img) e (scope_in img scope) st.next

abbrev pub args : (img scope : List ℕ) → Rules → Exprs → St → Res (Out Regs)
args img scope R es st = gens (rules_of R) (contract_at img) es (scope_in img scope) st.next

abbrev pub inits : (img scope : List ℕ) → Rules → Inits → St → Res (Out Regs)
inits img scope R is st = gen_inits (rules_of R) (contract_at img) is (scope_in img scope) st.next

abbrev pub value_in : St → AtReg
value_in t = at (t.reg % 256) t.next

-- count_expr
pub record Counts (img scope : List ℕ) (R : Rules) (d x : ℕ) (st t : St) : Type 0 where
  pub goes : Goes (tally st) (tally t) (value_in t) (steps img scope R (expr_at d img x) st)

-- saved: k words more
pub record Saves (st : St) (k : ℕ) (r : St) : Type 0 where
  pub sums : Sums st.n k r.n
  pub err : r.err ≡ st.err
  pub next : r.next ≡ st.next

-- a is the spot of word number `want`, in an expression that ends before word number `end`
pub record Finds (img scope : List ℕ) (R : Rules) (e : Expr) (st : St) (end want : ℕ) (a : Spot) : Type 0 where
  pub found : Found (told img want) (steps img scope R e st) (tally st) end want a

pub data Ans (img scope : List ℕ) (R : Rules) (d want : ℕ) (r : Step) (a : Spot) : Type 0 where
  owns : (r.way ≡ way.Value → ⊥) → spot_in_lem r ≡ a → Ans img scope R d want r a
  goes : r.way ≡ way.Value → Finds img scope R (expr_at d img r.place) r.st r.to want a → Ans img scope R d want r a

-- in_value
pub data Row (img scope : List ℕ) (R : Rules) (d x p : ℕ) (st : St) (want : ℕ) (r : Step) : Type 0 where
  inside : (t : St) → Counts img scope R d x st t → want < t.n → r ≡ into x t.n st → Row img scope R d x p st want r
  behind : (t : St) → Counts img scope R d x st t → t.n ≤ want → r ≡ owned p st → Row img scope R d x p st want r

-- Whatever follows the list m.
abbrev pub Before : (img : List ℕ) → Res (Out Regs) → St → (want : ℕ) → Spot → Type 0
Before img m st want a = (k : Regs → Res (Out AtReg)) (end : ℕ) → ((v : Regs) (t : Tally) → Found (told img want) (k v) t end want a) → Found (told img want) (m >>= k) (tally st) end want a

-- in_inits, in_args: in one of the values, whatever follows; or behind them all
pub data Listed (img scope : List ℕ) (R : Rules) (d : ℕ) (m : Res (Out Regs)) (p : ℕ) (st : St) (want : ℕ) (r : Step) : Type 0 where
  within : r.way ≡ way.Value → ((a : Spot) → Ans img scope R d want r a → (k : Regs → Res (Out AtReg)) (end : ℕ) → Found (told img want) (m >>= k) (tally st) end want a) → Listed img scope R d m p st want r
  past : (s : St) → r ≡ owned p s → ((a : Spot) → Before img m st want a) → Listed img scope R d m p st want r

-- in_binary, ..: from the record at i, taken as an expression of a kind, whose parts are d records deep at most
pub record Leads (img scope : List ℕ) (R : Rules) (d : ℕ) (K : Kind) (i : ℕ) (st : St) (end want : ℕ) (r : Step) : Type 0 where
  pub leads : (a : Spot) → Ans img scope R d want r a → Found (told img want) (steps img scope R (expr_as K (expr_at d img) img i) st) (tally st) end want a

-- step_expr: by its own kind
pub record Steps (img scope : List ℕ) (R : Rules) (d i : ℕ) (st : St) (end want : ℕ) (r : Step) : Type 0 where
  pub leads : (a : Spot) → Ans img scope R d want r a → Found (told img want) (steps img scope R (expr_at (suc d) img i) st) (tally st) end want a

-- in_user, and the calls that are builtins
pub record Calls (img scope : List ℕ) (R : Rules) (d i : ℕ) (st : St) (end want : ℕ) (b : Option Builtin) (r : Step) : Type 0 where
  pub leads : (a : Spot) → Ans img scope R d want r a
      → Found (told img want) (gen_call (rules_of R) (contract_at img) i (name_in img i) st.next (args img scope R (args_at_lem d img i) st) b) (tally st) end want a
