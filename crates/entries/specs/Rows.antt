-- The entries of an image's functions, with the functions' first words F.
--     entry_of img F k       the entry of function k
--     entries_of img F n     those of the first n
-- Assumes nothing.
use Rattle.std.specs.Prelude.{◌≡◌, refl, List, [], ◌∷◌, ◌++◌, ℕ, zero, suc, ◌+◌, length, get_or, set}
use Rattle.std.proofs.Common.{sym, ap, ◌∙◌, add-one, length-append}
use Rattle.rules.specs.Read.{function_at}
use Rattle.rules.specs.Lent.{over}
use Rattle.lent.specs.Over.{over_more}
use Rattle.tables.specs.Listed.{functions_in}
use Rattle.entries.specs.declared.Entry.{Entry}

-- 01: its place, its first word, its parameter count
unfoldable pub entry_of : (img F : List ℕ) → ℕ → Entry
entry_of img F k = record { place = get_or (functions_in img) k 0; first = get_or F k 0; params = length (function_at img (get_or (functions_in img) k 0)).params }

unfoldable pub entries_of : (img F : List ℕ) → ℕ → List Entry
entries_of img F zero = []
entries_of img F (suc n) = entries_of img F n ++ entry_of img F n ∷ []

pub rows_length : (img F : List ℕ) (n : ℕ) → length (entries_of img F n) ≡ n
unfolding entries_of
rows_length img F zero = refl
rows_length img F (suc n) = length-append (entries_of img F n) (entry_of img F n ∷ []) ∙ ap (λ k. k + 1) (rows_length img F n) ∙ add-one n

-- none of them, and one more of them, laid over a table
pub rows_none : (img F : List ℕ) (t : List Entry) → t ≡ over (entries_of img F 0) t
unfolding entries_of
rows_none img F t = refl

pub rows_more : (img F : List ℕ) (n : ℕ) (t : List Entry) → set (over (entries_of img F n) t) n (entry_of img F n) ≡ over (entries_of img F (n + 1)) t
unfolding entries_of
rows_more img F n t =
    ap (λ k. set (over (entries_of img F n) t) k (entry_of img F n)) (sym (rows_length img F n))
    ∙ over_more (entries_of img F n) (entry_of img F n) t
    ∙ ap (λ k. over (entries_of img F k) t) (sym (add-one n))
