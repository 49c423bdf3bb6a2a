-- The rows of the function table.
--     three       an entry of the table as the code has it; rows: the first k
--     rows_are    they are the entries of the program
-- Assumes nothing.
use Rattle.std.specs.Prelude.{◌≡◌, length, take, None, Option, Some}
use Rattle.std.proofs.Math.Path.{refl, sym, ap}
use Rattle.std.proofs.Common.{◌∙◌, le_of_suc-le-suc, not-suc-le-zero, arith, take-suc, get_or-take}
use mathlib.Core.List.{List, [], ◌∷◌, ◌++◌, map}
use Prim.Native.Nat.{ℕ, zero, suc, ◌+◌, ◌≤◌, ◌<◌}
use Rattle.std.proofs.Math.ListN.{get_or, get_or-map}
use Rattle.std.proofs.Math.Seq.{take-length}
use Rattle.rules.specs.Tables.{last}
use Rattle.rules.specs.Tree.{Function, Contract}
use Rattle.rules.specs.Read.{function_at, contract_at}
use Rattle.rules.specs.Refusal.{Refusal, Res}
use Rattle.rules.specs.Builtins.{main}
use Rattle.rules.specs.Machine.{Entry}
use Rattle.rules.specs.Emit.{Rules}
use Rattle.rules.specs.Generate.{function}
use Rattle.rules.specs.Link.{Built, Program, functions, with_main, generate}
use Rattle.rules.specs.Lent.{spread}
use Rattle.rules.specs.Build.{three_of}
use Rattle.bounds.specs.Answers.{All, all_ok, all_bad, all_bind, all_next}
use Rattle.lent.specs.Over.{spread_append}
use Rattle.tables.specs.Listed.{functions_in}

-- The first words of a table's functions.
abbrev pub firsts_of : List Entry → List ℕ
firsts_of T = map (λ (e : Entry). e.first) T

-- The entry of the function with index k: its place, its first word, its parameters.
unfoldable pub three : (img F : List ℕ) → ℕ → List ℕ
three img F k = get_or (functions_in img) k 0 ∷ get_or F k 0 ∷ length (function_at img (get_or (functions_in img) k 0)).params ∷ []

-- The indexes below k.
unfoldable pub below : ℕ → List ℕ
below zero = []
below (suc k) = below k ++ (k ∷ [])

pub length_below : (k : ℕ) → length (below k) ≡ k
unfolding below
length_below zero = refl
length_below (suc k) = grown (below k) k ∙ ap suc (length_below k)
  where
    grown : (l : List ℕ) (a : ℕ) → length (l ++ (a ∷ [])) ≡ suc (length l)
    grown [] a = refl
    grown (x ∷ l) a = ap suc (grown l a)

-- A table whose entries are those of the functions at the places ps.
unfoldable pub Mirrors : (img ps : List ℕ) → List Entry → Type 0
Mirrors img [] [] = Unit {0}
Mirrors img [] (e ∷ T) = ⊥
Mirrors img (p ∷ ps) [] = ⊥
Mirrors img (p ∷ ps) (e ∷ T) = (e.place ≡ p) × ((e.params ≡ length (function_at img p).params) × Mirrors img ps T)

mirrored : (R : Rules) (img : List ℕ) (C : Contract) (i : ℕ) (ps : List ℕ) → All (λ (b : Built). Mirrors img ps b.table) (functions R C i (map (function_at img) ps))
unfolding functions Mirrors function_at
mirrored R img C i [] = all_ok _ tt
mirrored R img C i (p ∷ ps) = all_next (function R C (function_at img p)) _ (λ c. all_bind (functions R C (i + length c) (map (function_at img) ps)) _ (mirrored R img C (i + length c) ps) (λ b m. all_ok _ (refl, (refl, m))))

-- 000: generate, over the contract of an image
pub generated_mirrors : (R : Rules) (img : List ℕ) → All (λ (P : Program). Mirrors img (functions_in img) P.table) (generate R (contract_at img))
unfolding generate with_main contract_at
generated_mirrors R img = with (last-main) (all_bind (functions R (contract_at img) 3 (map (function_at img) (functions_in img))) _ (mirrored R img (contract_at img) 3 (functions_in img)) (λ b m. all_ok _ m))
  where
    last-main : Option Function
    last-main = last (λ (f : Function). f.name) main (contract_at img).functions

    with : {Q : Program → Type 0} {r : Res Program} (o : Option Function) → All Q r → All Q (with_main o r)
    with None h = all_bad Refusal.no_main
    with (Some f) h = h

pub mirrors_length : (img ps : List ℕ) (T : List Entry) → Mirrors img ps T → length T ≡ length ps
unfolding Mirrors
mirrors_length img [] [] m = refl
mirrors_length img [] (e ∷ T) m = absurd m
mirrors_length img (p ∷ ps) [] m = absurd m
mirrors_length img (p ∷ ps) (e ∷ T) m = ap suc (mirrors_length img ps T m.1.1)

abbrev blank : Entry
blank = record { place = 0; name = []; params = 0; first = 0; past = 0 }

mirrors_at : (img ps : List ℕ) (T : List Entry) → Mirrors img ps T → (k : ℕ) → k < length T → ((get_or T k blank).place ≡ get_or ps k 0) × ((get_or T k blank).params ≡ length (function_at img (get_or ps k 0)).params)
unfolding Mirrors
mirrors_at img [] [] m k h = absurd (not-suc-le-zero h)
mirrors_at img [] (e ∷ T) m k h = absurd m
mirrors_at img (p ∷ ps) [] m k h = absurd m
mirrors_at img (p ∷ ps) (e ∷ T) m zero h = (m.0, m.1.0)
mirrors_at img (p ∷ ps) (e ∷ T) m (suc k) h = mirrors_at img ps T m.1.1 k (le_of_suc-le-suc h)

-- The rows that the code fills are the program's entries.
module _ (img F : List ℕ) (T : List Entry) (m : Mirrors img (functions_in img) T) (firsts : take (length T) F ≡ firsts_of T) where
  row : (k : ℕ) → k < length T → three img F k ≡ three_of (get_or T k blank)
  unfolding three three_of
  row k h =
      let (p, q) = mirrors_at img (functions_in img) T m k h in
      let f : get_or F k 0 ≡ (get_or T k blank).first = sym (get_or-take (length T) F k 0 h) ∙ ap (λ (l : List ℕ). get_or l k 0) firsts ∙ get_or-map (λ (e : Entry). e.first) T k blank in
      rw (p, q, f) refl

  rows : (k : ℕ) → k ≤ length T → spread (three img F) (below k) ≡ spread three_of (take k T)
  unfolding below spread
  rows zero h = refl
  rows (suc k) h =
      spread_append (three img F) (below k) (k ∷ [])
      ∙ ap (λ (l : List ℕ). l ++ (three img F k ++ [])) (rows k (omega arith))
      ∙ ap (λ (l : List ℕ). spread three_of (take k T) ++ (l ++ [])) (row k h)
      ∙ sym (spread_append three_of (take k T) (get_or T k blank ∷ []))
      ∙ ap (λ (l : List Entry). spread three_of l) (sym (take-suc T k blank h))

  pub rows_are : (n : ℕ) → n ≡ length T → spread (three img F) (below n) ≡ spread three_of T
  rows_are n e = ap (λ (k : ℕ). spread (three img F) (below k)) e ∙ rows (length T) (omega arith) ∙ ap (λ (l : List Entry). spread three_of l) (take-length T)
