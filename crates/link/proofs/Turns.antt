-- The loop of `link`: after i turns the first i numbers are linked, and the rest is as it was.
--     Linking      that
--     long, here, more, skip      the slice's length, the number that is next, one turn, past words that are no open calls
-- Assumes nothing.
use mathlib.Core.Path.{◌≡◌, refl, sym, ap, ◌∙◌}
use mathlib.Core.Bool.{Bool, true, false}
use mathlib.Core.List.{List, [], ◌∷◌, ◌++◌}
use Prim.Native.Nat.{ℕ, ◌+◌, ◌≤◌, ◌<◌, min}
use native.Mathlib.Nat.{zero-add}
use native.Mathlib.Numerals.{add-one}
use native.Mathlib.Omega.{arith}
use lib.ListN.{length, get_or, set, take}
use lib.Seq.{take_all, take-suc, length-take-le, set-get_or}
use lib.Dec.{leb}
use borrow.Author.Tests.{leb-true, leb-false}
use Rattle.rules.specs.Lent.{over}
use Rattle.lent.specs.Over.{length_over, over_more, get_d_over_past}
use Rattle.link.specs.Closed.{Shut, Closed, along}
use Rattle.link.specs.Linked.{linked, kept_word, linked_from, length_linked, linked_more}

pub record Linking (F c₀ : List ℕ) (end : ℕ) (c : List ℕ) (i : ℕ) : Type 0 where
  pub within : i ≤ end
  pub room : end ≤ length c₀
  pub same : c ≡ over (linked_from F 0 (take i c₀)) c₀

module _ {F c₀ : List ℕ} {end : ℕ} {c : List ℕ} {i : ℕ} (v : Linking F c₀ end c i) where
  pub long : length c ≡ length c₀
  long = ap length v.same ∙ length_over (linked_from F 0 (take i c₀)) c₀

  done : length (linked_from F 0 (take i c₀)) ≡ i
  done = length_linked F 0 (take i c₀) ∙ length-take-le i c₀ (omega (arith, v.within, v.room))

  pub here : get_or c i 0 ≡ get_or c₀ i 0
  here = ap (λ (l : List ℕ). get_or l i 0) v.same ∙ get_d_over_past (linked_from F 0 (take i c₀)) c₀ i 0 (omega (arith, done))

  pub more : (w : ℕ) → w ≡ linked F i (get_or c i 0) → i < end → set c i w ≡ over (linked_from F 0 (take (i + 1) c₀)) c₀
  more w e h =
      let k : i < length c₀ = omega (arith, h, v.room) in
      let l = length-take-le i c₀ (omega (arith, k)) in
      ap (λ (x : ℕ). set c i x) (e ∙ ap (λ (x : ℕ). linked F i x) here)
      ∙ ap (λ (r : List ℕ). set r i (linked F i (get_or c₀ i 0))) v.same
      ∙ ap (λ (n : ℕ). set (over (linked_from F 0 (take i c₀)) c₀) n (linked F i (get_or c₀ i 0))) (sym done)
      ∙ over_more (linked_from F 0 (take i c₀)) (linked F i (get_or c₀ i 0)) c₀
      ∙ ap (λ (n : ℕ). over (linked_from F 0 (take i c₀) ++ linked F n (get_or c₀ i 0) ∷ []) c₀) (sym (zero-add (length (take i c₀)) ∙ l))
      ∙ ap (λ (r : List ℕ). over r c₀) (sym (linked_more F 0 (take i c₀) (get_or c₀ i 0)))
      ∙ ap (λ (r : List ℕ). over (linked_from F 0 r) c₀) (sym (take-suc c₀ i 0 k) ∙ ap (λ (n : ℕ). take n c₀) (sym (add-one i)))

-- Past words that are no open calls.
pub skip : {F c₀ : List ℕ} {end : ℕ} {c : List ℕ} {i r : ℕ} → Closed (Shut c) i end r → Linking F c₀ end c i → Linking F c₀ end c r
skip {F} {c₀} {end} {c} = along (λ j. Linking F c₀ end c j)
    (λ j h p v. record { within = omega arith; room = v.room; same = sym (set-get_or c j 0) ∙ more v (get_or c j 0) (sym (kept_word F j (get_or c j 0) p)) h })

-- All that there are of the first n.
pub taken : (c : List ℕ) (n i : ℕ) → i ≡ min n (length c) → take i c ≡ take n c
taken c n i e = by (leb n (length c)) refl
  where
    by : (b : Bool) → leb n (length c) ≡ b → take i c ≡ take n c
    by true h = let k : n ≤ length c = leb-true _ _ h in let z : i ≡ n = omega (arith, e, k) in ap (λ (j : ℕ). take j c) z
    by false h = let k : length c < n = leb-false _ _ h in let z : length c ≤ i = omega (arith, e, k) in take_all i c z ∙ sym (take_all n c (omega (arith, k)))
