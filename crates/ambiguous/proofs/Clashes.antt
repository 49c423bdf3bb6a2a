-- Whether two of a field's positions differ.
--     begins, hits, passes, ends     the structs, one at a time
-- Assumes nothing.
use Rattle.std.specs.Prelude.{Option, None, Some}
use Rattle.std.specs.Option.{option_or}
use mathlib.Core.Bool.{Bool, true, false}
use mathlib.Core.List.{List, []}
use mathlib.Core.Path.{◌≡◌, refl, ap}
use Prim.Native.Nat.{ℕ}
use Rattle.rules.specs.Bytes.{Name}
use Rattle.rules.specs.Tables.{or_else}
use Rattle.rules.specs.Read.{contract_at}
use Rattle.rules.specs.Layout.{with_position}
use Rattle.rules.specs.Ambiguous.{differs, apart}
use Rattle.records.specs.Names.{never}
use Rattle.fields.specs.Spots.{positions_from}
use Rattle.fields.specs.Steps.{all}
use Rattle.ambiguous.specs.Spots.{clash, unsure}

-- What is left to compare: with the first position, if there was one.
unfoldable pub remains : Option ℕ → List ℕ → Bool
remains (Some i) l = differs i l
remains None l = apart l

-- std's `or`
pub or_or_else : (o h : Option ℕ) → option_or o h ≡ or_else o h
unfolding or_else
or_or_else (Some i) h = refl
or_or_else None h = refl

pub begins : (img : List ℕ) (x : Name) → unsure (contract_at img) x ≡ remains None (positions_from img x 0)
unfolding unsure remains
begins img x = ap apart (all img x)

pub hits : (o h : Option ℕ) (l : List ℕ) → clash o h ≡ true → remains o (with_position h l) ≡ true
unfolding clash remains with_position differs
hits (Some i) (Some j) l e = rw e
hits (Some i) None l e = never e
hits None h l e = never e

pub passes : (o h : Option ℕ) (l : List ℕ) → clash o h ≡ false → remains o (with_position h l) ≡ remains (or_else o h) l
unfolding clash remains with_position differs apart or_else
passes (Some i) (Some j) l e = rw e
passes (Some i) None l e = refl
passes None (Some j) l e = refl
passes None None l e = refl

pub ends : (o : Option ℕ) (l : List ℕ) → l ≡ [] → remains o l ≡ false
unfolding remains differs apart
ends (Some i) l e = rw e
ends None l e = rw e
