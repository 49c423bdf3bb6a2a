-- `compiler::table::fill` meets its contract: after k turns the rows of the first k functions are laid over the table.
use mathlib.Core.Path.{◌≡◌, refl, sym, ap, ◌∙◌}
use mathlib.Core.List.{List, [], ◌∷◌}
use Prim.Native.Nat.{ℕ, ◌+◌, ◌*◌}
use native.Mathlib.Numerals.{add-one}
use native.Mathlib.Omega.{arith}
use lib.ListN.{length, get_or}
use Rattle.rules.specs.Lent.{over, spread}
use Rattle.rules.specs.Read.{function_at, fourth}
use Rattle.lent.specs.Over.{over_at, length_over, spread_more}
use Rattle.tables.specs.Listed.{functions_in}
use Rattle.tables.specs.Carried.{few}
use Rattle.compiler.specs.Made.{three, below, length_below}
use Rattle.compiler.proofs.table.fill.Goals as goal

long : (img F t₀ t : List ℕ) (k : ℕ) → t ≡ over (spread (three img F) (below k)) t₀ → length t ≡ length t₀
long img F t₀ t k e = ap length e ∙ length_over (spread (three img F) (below k)) t₀

each : (img F : List ℕ) (k : ℕ) → length (three img F k) ≡ 3
unfolding three
each img F k = refl

-- one row more
next : (img F t₀ t : List ℕ) (k place first params : ℕ) → place ≡ get_or (functions_in img) k 0 → first ≡ get_or F k 0 → params ≡ length (function_at img place).params
    → t ≡ over (spread (three img F) (below k)) t₀ → over_at (3 * k) (place ∷ first ∷ params ∷ []) t ≡ over (spread (three img F) (below (k + 1))) t₀
unfolding three below
next img F t₀ t k place first params e f g h =
    rw (g, f, e, h, add-one k)
    (ap (λ (n : ℕ). over_at (3 * n) (three img F k) (over (spread (three img F) (below k)) t₀)) (sym (length_below k)) ∙ spread_more (three img F) 3 (each img F) (below k) k t₀)

all : (img F t₀ : List ℕ) {k n : ℕ} → k ≡ n → over (spread (three img F) (below k)) t₀ ≡ over (spread (three img F) (below n)) t₀
all img F t₀ e = rw e refl

-- src/table.rt:37:5
pub loop-k-init : goal.loop-k-init
unfolding spread below
loop-k-init c = refl

-- src/table.rt:39:32
pub bounds-firsts-k : goal.bounds-firsts-k
bounds-firsts-k c = omega (arith, c.loop-k-test.true, c.function_count-k-end.ensures, few 256 c.args.contract.now.img.now (fourth c.args.contract.now.img.now 0))

-- src/table.rt:39:9
pub write-requires : goal.write-requires
write-requires c = omega (arith, long c.args.contract.now.img.now c.args.firsts.now c.args.table.now c.loop-k.table c.loop-k.k c.loop-k.invariant, c.loop-k-test.true, c.function_count-k-end.ensures, c.requires)

-- src/table.rt:37:5
pub loop-k-preserved : goal.loop-k-preserved
loop-k-preserved c = c.write.ensures ∙ next c.args.contract.now.img.now c.args.firsts.now c.args.table.now c.loop-k.table c.loop-k.k _ _ _ (c.function_place-place.ensures (omega (arith, c.function_count-k-end.ensures, c.loop-k-test.true))) refl c.param_count.ensures c.loop-k.invariant

-- src/table.rt:32:1
pub shape_of-table : goal.shape_of-table
shape_of-table c = long c.args.contract.now.img.now c.args.firsts.now c.args.table.now c.loop-k.table c.loop-k.k c.loop-k.invariant

-- src/table.rt:32:1
pub returns : goal.returns
returns c = c.loop-k.invariant ∙ all c.args.contract.now.img.now c.args.firsts.now c.args.table.now (omega (arith, c.function_count-k-end.ensures, c.loop-k.auto.k-end, c.loop-k-test.false))
