-- The numbers that stand in the slice once every function is placed (000: generate, the loop over unpatched_calls).
--     linked       one of them (kept_word: a word stays); linked_from: from index i on: length_linked, linked_more
-- Assumes nothing.
use Rattle.std.specs.Prelude.{◌≡◌, refl, List, [], ◌∷◌, ◌++◌, ℕ, suc, ◌+◌, ◌/◌, ◌%◌, ◌^◌, ◌<◌, leb, ltb, length, get_or}
use Rattle.std.proofs.Common.{sym, ap, ◌∙◌, add-zero, add-suc, suc-add}
use Rattle.std.proofs.lemmas.Bool.{lt-leb}
use Rattle.isa.specs.declared.Opcode.TheVariants as op
use Rattle.isa.specs.Signed.{offset_of}
use Rattle.rules.specs.Bytes.{pick}
use Rattle.emit.specs.Ran.{word_of}

-- The distance from an index to the first word of the function with the index k; none where there is no such function.
unfoldable pub distance_to : (firsts : List ℕ) (own k : ℕ) → ℕ
distance_to F i k = pick (ltb k (length F)) (offset_of (get_or F k 0 % 2 ^ 32) (i % 2 ^ 32)) 0

-- A word, which has an opcode, is kept, its top bits with it (02: P3); what has none is an open call.
unfoldable pub linked : (firsts : List ℕ) (own w : ℕ) → ℕ
linked F i w = pick (leb 31 (w % 256)) (word_of op.Call 0 0 0 (distance_to F i (w / 256))) w

pub kept_word : (F : List ℕ) (i w : ℕ) → w % 256 < 31 → linked F i w ≡ w
unfolding linked pick
kept_word F i w h = rw (lt-leb _ _ h) refl

-- Those from an index on.
unfoldable pub linked_from : (firsts : List ℕ) (own : ℕ) → List ℕ → List ℕ
linked_from F i [] = []
linked_from F i (w ∷ ws) = linked F i w ∷ linked_from F (suc i) ws

-- As many as there were.
pub length_linked : (F : List ℕ) (i : ℕ) (ws : List ℕ) → length (linked_from F i ws) ≡ length ws
unfolding linked_from
length_linked F i [] = refl
length_linked F i (w ∷ ws) = ap suc (length_linked F (suc i) ws)

-- One more behind them.
pub linked_more : (F : List ℕ) (i : ℕ) (ws : List ℕ) (w : ℕ) → linked_from F i (ws ++ w ∷ []) ≡ linked_from F i ws ++ linked F (i + length ws) w ∷ []
unfolding linked_from
linked_more F i [] w = ap (λ (k : ℕ). linked F k w ∷ []) (sym (add-zero i))
linked_more F i (x ∷ ws) w =
    ap (λ (l : List ℕ). linked F i x ∷ l) (linked_more F (suc i) ws w
    ∙ ap (λ (k : ℕ). linked_from F (suc i) ws ++ linked F k w ∷ []) (suc-add i (length ws) ∙ sym (add-suc i (length ws))))
