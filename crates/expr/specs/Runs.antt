-- Words one behind the other, each by its number in the run, laid by a loop over what was lent.
--     Laying     what is left to lay, laid behind what is there, gives all laid over what was lent
--     numbers_go, numbers_end               as numbers
--     bytes_go, bytes_end, bytes_last       as bytes; of the last word a part
-- Assumes nothing.
use Rattle.std.specs.Prelude.{◌≡◌, refl, set}
use Rattle.std.proofs.Common.{sym, ◌∙◌, length-set}
use Rattle.std.proofs.Math.Path.{ap}
use mathlib.Core.List.{List, [], ◌∷◌}
use Prim.Native.Nat.{ℕ, zero, suc, ◌+◌, ◌-◌, ◌*◌, ◌/◌, ◌≤◌, ◌<◌, min}
use native.Mathlib.Omega.{arith}
use Rattle.std.proofs.Math.ListN.{length}
use Rattle.isa.specs.declared.Opcode.TheVariants as op
use Rattle.rules.specs.Lent.{spread, word_bytes}
use Rattle.lent.specs.Over.{over_at, over_at_nil, over_at_first, over_at_past, length_over_at}
use Rattle.lent.specs.Words.{bytes_of, bytes_append}
use Rattle.emit.specs.Ran.{word_of}

-- k words, from number a on.
unfoldable pub run : (ℕ → ℕ) → (a k : ℕ) → List ℕ
run w a zero = []
run w a (suc k) = w a ∷ run w (suc a) k

-- Push of register r; of Pops down from register k number i.
abbrev pub pushes : ℕ → ℕ
pushes r = word_of op.Push 0 r 0 0

abbrev pub pops : ℕ → ℕ → ℕ
pops k i = word_of op.Pop (k - i) 0 0 0

pub length_run : (w : ℕ → ℕ) (a k : ℕ) → length (run w a k) ≡ k
unfolding run
length_run w a zero = refl
length_run w a (suc k) = ap suc (length_run w (suc a) k)

-- Words from number n on, as numbers and as bytes.
abbrev pub numbers : ℕ → List ℕ → List ℕ → List ℕ
numbers n ws s = over_at n ws s

abbrev pub bytes : ℕ → List ℕ → List ℕ → List ℕ
bytes n ws s = over_at (8 * n) (bytes_of ws) s

-- Of the words up to number e those before number j are laid; the next is number a of the run, and i are done.
pub record Laying (lay : ℕ → List ℕ → List ℕ → List ℕ) (w : ℕ → ℕ) (n e a₀ : ℕ) (s₀ s : List ℕ) (j a i : ℕ) : Type 0 where
  pub room : length s ≡ length s₀
  pub place : j ≡ n + i
  pub left : lay j (run w a (e - j)) s ≡ lay n (run w a₀ (e - n)) s₀

module _ (w : ℕ → ℕ) where
  run_next : (a j e : ℕ) → j < e → run w a (e - j) ≡ w a ∷ run w (a + 1) (e - (j + 1))
  unfolding run
  run_next a j e h =
      let f : e - j ≡ suc (e - (j + 1)) = omega arith in
      let g : suc a ≡ a + 1 = omega arith in
      ap (λ (k : ℕ). run w a k) f ∙ ap (λ (b : ℕ). w a ∷ run w b (e - (j + 1))) g

  numbers_past : (a m j : ℕ) (s : List ℕ) → (0 < m → length s ≤ j) → numbers j (run w a m) s ≡ s
  unfolding run
  numbers_past a zero j s h = over_at_nil j s
  numbers_past a (suc m) j s h = over_at_past j _ s (h (omega arith))

  bytes_past : (a m j : ℕ) (s : List ℕ) → (0 < m → length s ≤ 8 * j) → bytes j (run w a m) s ≡ s
  unfolding run spread
  bytes_past a zero j s h = over_at_nil (8 * j) s
  bytes_past a (suc m) j s h = over_at_past (8 * j) _ s (h (omega arith))

  module _ (n e a₀ : ℕ) (s₀ : List ℕ) where
    pub begins : (lay : ℕ → List ℕ → List ℕ → List ℕ) → Laying lay w n e a₀ s₀ s₀ n a₀ 0
    begins lay = record { room = refl; place = omega arith; left = refl }

    module _ {s : List ℕ} {j a i x : ℕ} where
      pub numbers_go : Laying numbers w n e a₀ s₀ s j a i → j < e → x ≡ w a → Laying numbers w n e a₀ s₀ (set s j x) (j + 1) (a + 1) (i + 1)
      numbers_go l h f = record {
        room = length-set s j x ∙ l.room;
        place = omega (arith, l.place);
        left = ap (λ (y : ℕ). numbers (j + 1) (run w (a + 1) (e - (j + 1))) (set s j y)) f
            ∙ sym (over_at_first j (w a) (run w (a + 1) (e - (j + 1))) s)
            ∙ ap (λ (ws : List ℕ). numbers j ws s) (sym (run_next a j e h))
            ∙ l.left;
      }

      pub bytes_go : {t : List ℕ} → Laying bytes w n e a₀ s₀ s j a i → j < e → x ≡ w a → t ≡ over_at (8 * j) (word_bytes x) s → Laying bytes w n e a₀ s₀ t (j + 1) (a + 1) (i + 1)
      unfolding spread word_bytes
      bytes_go l h f g = record {
        room = ap length g ∙ length_over_at (8 * j) (word_bytes x) s ∙ l.room;
        place = omega (arith, l.place);
        left = ap (bytes (j + 1) (run w (a + 1) (e - (j + 1)))) (g ∙ ap (λ (y : ℕ). over_at (8 * j) (word_bytes y) s) f)
            ∙ bytes_append j (w a ∷ []) (run w (a + 1) (e - (j + 1))) s
            ∙ ap (λ (ws : List ℕ). bytes j ws s) (sym (run_next a j e h))
            ∙ l.left;
      }

    module _ {s : List ℕ} {j a i : ℕ} where
      -- as far as the words go, or the slice
      pub numbers_end : Laying numbers w n e a₀ s₀ s j a i → min e (length s₀) ≤ j → s ≡ numbers n (run w a₀ (e - n)) s₀
      numbers_end l h = sym (numbers_past a (e - j) j s (λ z. omega (arith, z, h, l.room))) ∙ l.left

      pub bytes_end : Laying bytes w n e a₀ s₀ s j a i → e ≤ j → s ≡ bytes n (run w a₀ (e - n)) s₀
      bytes_end l h = sym (bytes_past a (e - j) j s (λ z. omega (arith, z, h))) ∙ l.left

      pub bytes_last : {t : List ℕ} {x : ℕ} → Laying bytes w n e a₀ s₀ s j a i → min e (length s₀ / 8) ≤ j → j < e → x ≡ w a → t ≡ over_at (8 * j) (word_bytes x) s → t ≡ bytes n (run w a₀ (e - n)) s₀
      bytes_last {t} l m h f g =
          let k = bytes_go l h f g in
          sym (bytes_past (a + 1) (e - (j + 1)) (j + 1) t (λ z. omega (arith, m, h, k.room))) ∙ k.left
