-- The last function named main, by a loop from the first to the last.
--     none_yet, next      its index among the first k; one function more
--     all_taken           all of them
-- Assumes nothing.
use Rattle.std.specs.Prelude.{Option, None, Some}
use mathlib.Core.Path.{◌≡◌, refl, sym, ap, ◌∙◌}
use mathlib.Core.Bool.{Bool, true, false}
use mathlib.Core.List.{List, [], ◌∷◌, ◌++◌}
use Prim.Native.Nat.{ℕ, suc, ◌+◌, ◌≤◌, ◌<◌}
use native.Mathlib.Nat.{add-zero}
use native.Mathlib.Numerals.{add-one}
use native.Mathlib.Omega.{arith}
use lib.ListN.{length, get_or, take, length-map, length-take}
use lib.Seq.{take_all}
use Rattle.rules.specs.Bytes.{pick, Name, eq_name}
use Rattle.rules.specs.Tables.{or_else, last_index}
use Rattle.rules.specs.Tree.{Function}
use Rattle.rules.specs.Read.{name_in, function_at, contract_at}
use Rattle.rules.specs.Analyse.{function_name}
use Rattle.rules.specs.Builtins.{main}
use Rattle.emit.specs.Ran.{or_first}
use Rattle.tables.specs.Listed.{functions_in}
use Rattle.codegen.specs.Parts.{function_no, taken}

else_none : (b : Bool) (i j : ℕ) → i ≡ j → or_else None (pick b (Some i) None) ≡ or_else (pick b (Some j) None) None
unfolding or_else pick
else_none true i j e = ap Some e
else_none false i j e = refl

else_else : {A : Type 0} (a b c : Option A) → or_else (or_else a b) c ≡ or_else a (or_else b c)
unfolding or_else
else_else None b c = refl
else_else (Some a) b c = refl

index_snoc : {A : Type 0} (n : A → Name) (x : Name) (i : ℕ) (l : List A) (a : A)
    → last_index n i x (l ++ a ∷ []) ≡ or_else (pick (eq_name (n a) x) (Some (i + length l)) None) (last_index n i x l)
unfolding last_index
index_snoc n x i [] a = else_none (eq_name (n a) x) i (i + 0) (sym (add-zero i))
index_snoc n x i (b ∷ l) a =
    let e : suc i + length l ≡ i + suc (length l) = omega arith in
    ap (λ (o : Option ℕ). or_else o (pick (eq_name (n b) x) (Some i) None)) (index_snoc n x (suc i) l a)
    ∙ else_else (pick (eq_name (n a) x) (Some (suc i + length l)) None) (last_index n (suc i) x l) (pick (eq_name (n b) x) (Some i) None)
    ∙ ap (λ (j : ℕ). or_else (pick (eq_name (n a) x) (Some j) None) (or_else (last_index n (suc i) x l) (pick (eq_name (n b) x) (Some i) None))) e

module _ (img : List ℕ) where
  abbrev fs : List Function
  fs = (contract_at img).functions

  -- 256 where there is none yet
  unfoldable pub main_of : ℕ → ℕ
  main_of k = or_first (last_index function_name 0 main (take k fs))

  pub none_yet : main_of 0 ≡ 256
  unfolding main_of last_index or_first
  none_yet = refl

  count : length fs ≡ length (functions_in img)
  unfolding contract_at
  count = length-map (functions_in img) (function_at img)

  pub all_taken : (k : ℕ) → length (functions_in img) ≤ k → main_of k ≡ or_first (last_index function_name 0 main fs)
  unfolding main_of
  all_taken k h = ap (λ (l : List Function). or_first (last_index function_name 0 main l)) (take_all k fs (omega (arith, count)))

  one_more : (k : ℕ) (b : Bool) → k < length (functions_in img) → eq_name (name_in img (get_or (functions_in img) k 0)) main ≡ b
      → last_index function_name 0 main (take (k + 1) fs) ≡ or_else (pick b (Some k) None) (last_index function_name 0 main (take k fs))
  unfolding function_at
  one_more k b h e =
      let n : 0 + length (take k fs) ≡ k = omega (arith, length-take k fs, count) in
      ap (λ (j : ℕ). last_index function_name 0 main (take j fs)) (add-one k)
      ∙ ap (last_index function_name 0 main) (taken img k h)
      ∙ index_snoc function_name main 0 (take k fs) (function_no img k)
      ∙ ap (λ (t : Bool). or_else (pick t (Some (0 + length (take k fs))) None) (last_index function_name 0 main (take k fs))) e
      ∙ ap (λ (j : ℕ). or_else (pick b (Some j) None) (last_index function_name 0 main (take k fs))) n

  -- one function more
  chosen : (o : Option ℕ) (k : ℕ) (b : Bool) → or_first (or_else (pick b (Some k) None) o) ≡ pick b k (or_first o)
  unfolding or_first or_else pick
  chosen o k true = refl
  chosen o k false = refl

  pub next : (k p found r : ℕ) (b : Bool) → k < length (functions_in img) → p ≡ get_or (functions_in img) k 0 → b ≡ eq_name (name_in img p) main → found ≡ main_of k → r ≡ pick b k found → r ≡ main_of (k + 1)
  unfolding main_of
  next k p found r b h e q f g =
      g ∙ ap (pick b k) f
      ∙ sym (ap or_first (one_more k b h (ap (λ (x : ℕ). eq_name (name_in img x) main) (sym e) ∙ sym q)) ∙ chosen (last_index function_name 0 main (take k fs)) k b)
