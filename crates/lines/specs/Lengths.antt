-- How long lines are, and what the loop over words has listed.
--     no_flag, some_flag, length_flag      nothing or ` +` behind a word
--     length_line      at most 40 bytes; length_lines: of n words at most 40 n
--     counted          how many bytes a text took
--     none_yet, more, whole      what the loop over the words has listed: nothing yet, one line more, all
-- Assumes nothing.
use Rattle.std.specs.Prelude.{◌≡◌, ℕ, zero, suc, ◌+◌, ◌*◌, ◌/◌, ◌%◌, ◌^◌, ◌≤◌, min, List, ◌++◌, length, take, ◌≢◌, refl}
use Rattle.std.proofs.Common.{sym, ap, subst, ◌∙◌, arith, length-append, length-take-le}
use Rattle.isa.specs.Word.{top_of}
use Rattle.rules.specs.Bytes.{le64}
use Rattle.rules.specs.Lent.{over}
use Rattle.rules.specs.Texts.{bytes, decimal}
use Rattle.rules.specs.Lines.{hex_digits, flag, line_of, lines_of, lined_in, lines_in, lines_bytes}
use Rattle.bounds.proofs.Texts.{decimal_few}
use Rattle.pieces.specs.Lays.{Lays, lays_length, lays_nothing, lays_then}
use Rattle.pieces.specs.Hex.{length_hex}

pub no_flag : (t n : ℕ) (s : List ℕ) → t ≡ 0 → Lays n (flag t) s s n
unfolding flag
no_flag zero n s h = lays_nothing n s
no_flag (suc t) n s h = absurd (omega arith)

pub some_flag : (t : ℕ) {n r : ℕ} {s u : List ℕ} → (t ≢ 0) → Lays n (bytes " +") s u r → Lays n (flag t) s u r
unfolding flag
some_flag zero h x = absurd (h refl)
some_flag (suc t) h x = x

pub length_flag : (t : ℕ) → length (flag t) ≤ 2
unfolding flag bytes
length_flag zero = omega arith
length_flag (suc t) = omega arith

pub length_line : (i w : ℕ) → length (line_of i w) ≤ 40
unfolding line_of bytes
length_line i w =
    let end : List ℕ = flag (top_of w) ++ bytes "\n" in
    omega (
      arith,
      decimal_few i,
      length_hex 16 w,
      length_flag (top_of w),
      length-append (decimal i) (bytes " " ++ (hex_digits 16 w ++ end)),
      length-append (bytes " ") (hex_digits 16 w ++ end),
      length-append (hex_digits 16 w) end,
      length-append (flag (top_of w)) (bytes "\n"),
    )

pub length_lines : (i : ℕ) (s : List ℕ) (n : ℕ) → length (lines_of i s n) ≤ 40 * n
unfolding lines_of
length_lines i s zero = omega arith
length_lines i s (suc n) =
    let l = line_of ((i + n) % 2 ^ 64) (le64 s (8 * n)) in
    omega (arith, length_lines i s n, length_line ((i + n) % 2 ^ 64) (le64 s (8 * n)), length-append (lines_of i s n) l)

pub none_yet : (i : ℕ) (s o : List ℕ) → Lays 0 (lines_of i s 0) o o 0
unfolding lines_of
none_yet i s o = lays_nothing 0 o

-- n counts bytes at the start of a list: what a slice of its first n asks.
abbrev pub Counts : ℕ → List ℕ → Type 0
Counts n s = (n ≤ length s) × (n ≡ length (take n s))

-- What a text leaves that is laid from the start and fits.
pub counted : {n : ℕ} {l o p : List ℕ} → length l ≤ length o → Lays 0 l o p n → (n ≡ length l) × ((p ≡ over l o) × Counts n p)
counted {n} {l} {o} {p} h x =
    let few : n ≤ length p = omega (arith, h, x.past, lays_length x) in
    (omega (arith, x.past), (x.laid, (few, sym (length-take-le n p few))))

-- One line more.
pub more : (i k : ℕ) (s : List ℕ) {n m j w : ℕ} {o p q : List ℕ} → j ≡ (i + k) % 2 ^ 64 → w ≡ le64 s (8 * k) → Lays 0 (lines_of i s k) o p n → Lays n (line_of j w) p q m → Lays 0 (lines_of i s (k + 1)) o q m
unfolding lines_of
more i k s {n} {m} {j} {w} {o} {p} {q} e f x y =
    let z : k + 1 ≡ suc k = omega arith in
    subst (λ (l : List ℕ). Lays 0 l o q m)
    (ap (λ (a : ℕ). lines_of i s k ++ line_of a w) e ∙ ap (λ (a : ℕ). lines_of i s k ++ line_of ((i + k) % 2 ^ 64) a) f ∙ ap (lines_of i s) (sym z))
    (lays_then x y)

-- No room, or no word, is left.
pub whole : (i k : ℕ) (s : List ℕ) {n : ℕ} {o p : List ℕ} → k ≡ min (length s / 8) (length o / 40) → Lays 0 (lines_of i s k) o p n
    → (n ≡ length (lines_in i s o)) × ((p ≡ lines_bytes i s o) × Counts n p)
unfolding lined_in lines_in lines_bytes
whole i k s {n} {o} {p} e x =
    let m = min (length s / 8) (length o / 40) in
    counted (omega (arith, length_lines i s m)) (subst (λ (a : ℕ). Lays 0 (lines_of i s a) o p n) e x)
