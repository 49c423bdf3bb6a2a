-- `entries::entry_no`: the three numbers that it reads are the entry of function k.
use mathlib.Core.Path.{◌≡◌, refl}
use mathlib.Core.List.{List}
use Prim.Native.Nat.{ℕ}
use lib.ListN.{length, get_or}
use Rattle.rules.specs.Read.{function_at}
use Rattle.tables.specs.Listed.{functions_in}
use Rattle.entries.specs.declared.Entry.{Entry}
use Rattle.entries.specs.Rows.{entry_of}
use Rattle.entries.proofs.entry_no.Goals as goal

is-entry : (img F : List ℕ) (k place first params : ℕ) → place ≡ get_or (functions_in img) k 0 → first ≡ get_or F k 0 → params ≡ length (function_at img place).params
    → ◌≡◌ {A = Entry} (record { place = place; first = first; params = params }) (entry_of img F k)
unfolding entry_of
is-entry img F k place first params e f g = rw (g, f, e) refl

-- src/lib.rt:65:1
pub returns : goal.returns
returns c = is-entry c.args.contract.now.img.now c.args.firsts.now c.args.k _ _ _ (c.function_place-place.ensures c.requires.0) refl c.param_count.ensures
