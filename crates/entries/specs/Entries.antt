-- The function table as entries and as numbers, three to an entry.
--     numbers e, numbers_of es     the numbers of an entry, of a table
--     entries_in s                 the entries that the numbers s make; one or two left over are none
--     entries_are, numbers_one, numbers_length, entries_length     what the one form says of the other
--     numbers_over, entries_over, numbers_set, numbers_get, numbers_blank     laying over, putting, getting and clearing are the same in both forms, whatever the room
-- Assumes nothing.
use Rattle.std.specs.Prelude.{◌≡◌, refl, List, [], ◌∷◌, ℕ, zero, suc, ◌+◌, ◌*◌, ◌/◌, length, get_or, set, replicate}
use Rattle.std.proofs.Common.{sym, ap, ◌∙◌, arith}
use Rattle.std.proofs.lemmas.List.{replicate-append-replicate, length-replicate}
use Rattle.rules.specs.Lent.{over, cleared, spread}
use Rattle.lent.specs.Over.{over_at, over_more}
use Rattle.entries.specs.declared.Entry.{Entry}

-- the entry of zeros
abbrev pub blank : Entry
blank = record { place = 0; first = 0; params = 0 }

abbrev pub numbers : Entry → List ℕ
numbers e = e.place ∷ e.first ∷ e.params ∷ []

abbrev pub numbers_of : List Entry → List ℕ
numbers_of es = spread numbers es

abbrev pub entries_in : List ℕ → List Entry
entries_in [] = []
entries_in (a ∷ []) = []
entries_in (a ∷ b ∷ []) = []
entries_in (a ∷ b ∷ c ∷ s) = record { place = a; first = b; params = c } ∷ entries_in s

pub entries_are : (es : List Entry) → entries_in (numbers_of es) ≡ es
unfolding spread
entries_are [] = refl
entries_are (e ∷ es) = ap {B = List Entry} (λ r. e ∷ r) (entries_are es)

-- no two tables have the same numbers: a contract over the numbers says every entry
pub numbers_one : (es fs : List Entry) → numbers_of es ≡ numbers_of fs → es ≡ fs
numbers_one es fs e = sym (entries_are es) ∙ ap entries_in e ∙ entries_are fs

pub entries_length : (s : List ℕ) → length (entries_in s) ≡ length s / 3
entries_length [] = refl
entries_length (x ∷ []) = refl
entries_length (x ∷ y ∷ []) = refl
entries_length (x ∷ y ∷ z ∷ s) = omega (arith, entries_length s)

-- 51 counts entries
pub numbers_length : (es : List Entry) → length (numbers_of es) / 3 ≡ length es
numbers_length es = sym (entries_length (numbers_of es)) ∙ ap length (entries_are es)

pub numbers_over : (es s : List Entry) → numbers_of (over es s) ≡ over (numbers_of es) (numbers_of s)
unfolding spread
numbers_over [] s = refl
numbers_over (e ∷ es) [] = refl
numbers_over (e ∷ es) (x ∷ s) = ap {B = List ℕ} (λ r. e.place ∷ e.first ∷ e.params ∷ r) (numbers_over es s)

pub entries_over : (es : List Entry) (s : List ℕ) → entries_in (over (numbers_of es) s) ≡ over es (entries_in s)
unfolding spread
entries_over [] s = refl
entries_over (e ∷ es) [] = refl
entries_over (e ∷ es) (x ∷ []) = refl
entries_over (e ∷ es) (x ∷ y ∷ []) = refl
entries_over (e ∷ es) (x ∷ y ∷ z ∷ s) = ap {B = List Entry} (λ r. e ∷ r) (entries_over es s)

-- putting an entry is laying its three numbers at its place
pub numbers_set : (es : List Entry) (i : ℕ) (e : Entry) → numbers_of (set es i e) ≡ over_at (3 * i) (numbers e) (numbers_of es)
unfolding spread
numbers_set [] zero e = refl
numbers_set [] (suc i) e = let q : 3 * suc i ≡ suc (suc (suc (3 * i))) = omega arith in rw q refl
numbers_set (x ∷ es) zero e = refl
numbers_set (x ∷ es) (suc i) e =
    let q : 3 * suc i ≡ suc (suc (suc (3 * i))) = omega arith in
    rw q (ap {B = List ℕ} (λ r. x.place ∷ x.first ∷ x.params ∷ r) (numbers_set es i e))

-- getting one is reading them
pub numbers_get : (es : List Entry) (i : ℕ) → numbers (get_or es i blank) ≡ get_or (numbers_of es) (3 * i) 0 ∷ get_or (numbers_of es) (3 * i + 1) 0 ∷ get_or (numbers_of es) (3 * i + 2) 0 ∷ []
unfolding spread
numbers_get [] i = refl
numbers_get (x ∷ es) zero = refl
numbers_get (x ∷ es) (suc i) =
    let q : 3 * suc i ≡ suc (suc (suc (3 * i))) = omega arith in
    let q1 : 3 * suc i + 1 ≡ suc (suc (suc (3 * i + 1))) = omega arith in
    let q2 : 3 * suc i + 2 ≡ suc (suc (suc (3 * i + 2))) = omega arith in
    rw (q1, q2, q) (numbers_get es i)

-- clearing all entries is clearing all numbers
pub numbers_blank : (es : List Entry) → numbers_of (replicate (length es) blank) ≡ cleared (numbers_of es)
unfolding spread cleared
numbers_blank [] = refl
numbers_blank (e ∷ es) = ap {B = List ℕ} (λ r. 0 ∷ 0 ∷ 0 ∷ r) (numbers_blank es)

-- a table with its first i entries cleared: one more, and all
pub clear_more : (i : ℕ) (t : List Entry) → set (over (replicate i blank) t) i blank ≡ over (replicate (i + 1) blank) t
clear_more i t =
    ap (λ k. set (over (replicate i blank) t) k blank) (sym (length-replicate i blank))
    ∙ over_more (replicate i blank) blank t
    ∙ ap (λ (l : List Entry). over l t) (replicate-append-replicate i 1 blank)

pub clear_all : (t : List Entry) → over (replicate (length t) blank) t ≡ replicate (length t) blank
clear_all [] = refl
clear_all (e ∷ t) = ap {B = List Entry} (λ r. blank ∷ r) (clear_all t)
