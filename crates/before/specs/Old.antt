-- 01's own rule, as it was before 02's P2: every access keeps the search by the field alone, and 30 is given at any. It is the mended rule of a
-- contract whose functions were not analysed: no base is known in it. Below, the old texts, word for word.
-- Assumes nothing.
use Rattle.std.specs.Prelude.{◌≡◌, refl, List, [], ◌++◌, ℕ, ◌*◌, Option}
use Rattle.rules.specs.Bytes.{Name}
use Rattle.rules.specs.Tables.{last}
use Rattle.rules.specs.Tree.{Function, Contract}
use Rattle.rules.specs.Refusal.{Res, ok, ◌>>=◌}
use Rattle.rules.specs.Builtins.{main}
use Rattle.rules.specs.Meant.{of_functions, accesses, base_at}
use Rattle.rules.specs.Layout.{layouts, positions, first_of, declared, among, choices, offset}
use Rattle.rules.specs.Ambiguous.{apart, is_ambiguous_lem, in_functions}
use Rattle.rules.specs.Emit.{Rules}
use Rattle.rules.specs.Link.{Program, functions, link, opening, with_main}
use Rattle.rules.specs.Build.{clear, analysed}

-- The contract, its functions not looked at.
unfoldable pub unanalysed : Contract → Contract
unanalysed C = record { storage = C.storage; structs = C.structs; functions = [] }

-- 01: the offset as it was.
pub offset_before : (C : Contract) (p : ℕ) (x : Name) → offset (unanalysed C) p x ≡ first_of (positions x (layouts C.structs)) * 8
unfolding offset choices unanalysed accesses of_functions base_at declared among
offset_before C p x = refl

-- 01: For 30 as it was.
pub ambiguous_before : (C : Contract) (p : ℕ) (x : Name) → is_ambiguous_lem (unanalysed C) p x ≡ apart (positions x (layouts C.structs))
unfolding is_ambiguous_lem choices unanalysed accesses of_functions base_at declared among
ambiguous_before C p x = refl

-- 01: row 30, place, as it was.
unfoldable pub first_before : Contract → Option ℕ
first_before C = in_functions (unanalysed C) C.functions

-- 000: generate, as it was.
unfoldable pub generate_before : Rules → Contract → Res Program
generate_before R C = with_main (last (λ (f : Function). f.name) main C.functions) (do
  b ← functions R (unanalysed C) 3 C.functions
  ok (record { words = link b.table 0 (opening R ++ b.code); table = b.table }))

-- 01: Order, as it was: image, analysis and 30,
unfoldable pub judged_before : List ℕ → Res Contract
judged_before img = do
  C ← analysed img
  u ← clear (first_before C)
  ok C

-- then generation.
unfoldable pub program_before : Rules → List ℕ → Res Program
program_before R img = do
  C ← judged_before img
  generate_before R C
