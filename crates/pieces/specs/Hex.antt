-- Hex digits written from the last to the first.
--     Hexing           the last of the digits lie behind n + i, and those before them are the i digits of what is left
--     hexing_start, hexing_more, hexing_end      before the loop, one digit more, all of them (hexing_length: the slice is as long)
--     glyph_low, glyph_high, length_hex          a digit by cases; how many there are
-- Assumes nothing.
use Rattle.std.specs.Prelude.{◌≡◌, refl, List, [], ◌∷◌, ◌++◌, ℕ, zero, suc, ◌+◌, ◌/◌, ◌%◌, ◌≤◌, ◌<◌, length, set}
use Rattle.std.proofs.Common.{sym, ap, ◌∙◌, append_assoc, append-nil, add-one, arith, length-append, lt-ltb, le-ltb}
use Rattle.rules.specs.Bytes.{pick}
use Rattle.rules.specs.Lines.{glyph, hex_digits}
use Rattle.lent.specs.Over.{over_at, over_at_one, over_at_nil, over_at_first, over_at_swap, length_over_at}
use Rattle.pieces.specs.Lays.{Lays}

pub glyph_low : (d : ℕ) → d < 10 → glyph d ≡ 48 + d
unfolding glyph pick
glyph_low d h = rw (lt-ltb _ _ h) refl

pub glyph_high : (d : ℕ) → 10 ≤ d → glyph d ≡ 87 + d
unfolding glyph pick
glyph_high d h = rw (le-ltb _ _ h) refl

pub length_hex : (k v : ℕ) → length (hex_digits k v) ≡ k
unfolding hex_digits
length_hex zero v = refl
length_hex (suc k) v = length-append (hex_digits k (v / 16)) (glyph (v % 16) ∷ []) ∙ ap (λ n. n + 1) (length_hex k (v / 16)) ∙ add-one k

pub record Hexing (left v n : ℕ) (s t : List ℕ) (i rest : ℕ) : Type 0 where
  pub tail : List ℕ
  pub within : i ≤ left
  pub whole : hex_digits left v ≡ hex_digits i rest ++ tail
  pub laid : t ≡ over_at (n + i) tail s

pub hexing_start : (left v n : ℕ) (s : List ℕ) → Hexing left v n s s left v
hexing_start left v n s = record { tail = []; within = omega arith; whole = sym (append-nil (hex_digits left v)); laid = sym (over_at_nil (n + left) s) }

-- One digit in front of those that lie there.
front : (k g : ℕ) (l s : List ℕ) → set (over_at (k + 1) l s) k g ≡ over_at k (g ∷ l) s
front k g l s = sym (over_at_one k g (over_at (k + 1) l s)) ∙ over_at_swap k (k + 1) (g ∷ []) l s (omega arith) ∙ ap (over_at (k + 1) l) (over_at_one k g s) ∙ sym (over_at_first k g l s)

pub hexing_more : {left v n : ℕ} {s t : List ℕ} {j i rest : ℕ} (g : ℕ) → Hexing left v n s t j rest → j ≡ suc i → g ≡ glyph (rest % 16) → Hexing left v n s (set t (n + i) g) i (rest / 16)
unfolding hex_digits
hexing_more {left} {v} {n} {s} {t} {j} {i} {rest} g h p e =
    let k : n + j ≡ n + i + 1 = omega (arith, p) in
    record {
      tail = g ∷ h.tail;
      within = omega (arith, p, h.within);
      whole = h.whole ∙ ap (λ m. hex_digits m rest ++ h.tail) p ∙ ap (λ x. (hex_digits i (rest / 16) ++ (x ∷ [])) ++ h.tail) (sym e) ∙ append_assoc (hex_digits i (rest / 16)) (g ∷ []) h.tail;
      laid = ap (λ r. set r (n + i) g) (h.laid ∙ ap (λ m. over_at m h.tail s) k) ∙ front (n + i) g h.tail s;
    }

pub hexing_length : {left v n : ℕ} {s t : List ℕ} {i rest : ℕ} → Hexing left v n s t i rest → length t ≡ length s
hexing_length {left} {v} {n} {s} {t} {i} h = ap length h.laid ∙ length_over_at (n + i) h.tail s

pub hexing_end : {left v n : ℕ} {s t : List ℕ} {i rest : ℕ} → Hexing left v n s t i rest → i ≡ 0 → Lays n (hex_digits left v) s t (n + left)
unfolding hex_digits
hexing_end {left} {v} {n} {s} {t} {i} {rest} h z =
    let e : hex_digits left v ≡ h.tail = h.whole ∙ ap (λ k. hex_digits k rest ++ h.tail) z in
    let k : n + i ≡ n = omega (arith, z) in
    record { laid = h.laid ∙ ap (λ j. over_at j h.tail s) k ∙ ap (λ l. over_at n l s) (sym e); past = ap (λ k. n + k) (sym (length_hex left v)) }
