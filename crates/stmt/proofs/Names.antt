-- The scope in its array.
--     scope_same      the same count and the same cells hold the same names
--     bound           two cells and the count: one name more
--     put_back        a For's mark
--     idle, joined    what leaves the scope alone; one statement, then another
--     fewer, behind, behind_one     what is left of the room
-- Assumes nothing.
use mathlib.Core.Path.{◌≡◌, refl, ◌∙◌}
use mathlib.Core.List.{List}
use Prim.Native.Nat.{ℕ, zero, suc, ◌+◌, ◌*◌, ◌%◌, ◌≤◌, ◌<◌, min}
use native.Mathlib.Omega.{arith}
use borrow.Author.Tests.{eq-eqb}
use lib.ListN.{length, get_or, set, length-set}
use lib.Seq.{get_or-set_same, get_or-set_other}
use Rattle.rules.specs.Bytes.{pick, name_at}
use Rattle.rules.specs.Emit.{with_name}
use Rattle.records.specs.Keys.{key_of}
use Rattle.records.specs.Cells.{number_in, Beside}
use Rattle.expr.specs.Scope.{reg_no, scope_of, scope_in}
use Rattle.stmt.specs.Frame.{Ready, Frame, Binds}

pub idle : (s : List ℕ) (k : ℕ) → Frame s s k
idle s k = record { least = omega arith; most = omega arith; kept = λ i z h. refl }

pub joined : {s t u : List ℕ} {j k : ℕ} → Frame s t j → Frame t u k → Frame s u (k + j)
joined f g = record {
  least = omega (arith, f.least, g.least);
  most = omega (arith, f.most, g.most);
  kept = λ i z b. g.kept i z (omega (arith, f.least, b)) ∙ f.kept i z b;
}

from_same : (img s t : List ℕ) (k : ℕ) → ((i : ℕ) → 0 < i → i ≤ 2 * k → get_or t i 0 ≡ get_or s i 0) → scope_of img t k ≡ scope_of img s k
unfolding scope_of
from_same img s t zero h = refl
from_same img s t (suc k) h =
    rw (h (2 * k + 1) (omega arith) (omega arith), h (2 * k + 2) (omega arith) (omega arith), from_same img s t k (λ i z b. h i z (omega (arith, b)))) refl

pub scope_same : (img s t : List ℕ) → get_or t 0 0 ≡ get_or s 0 0 → ((i : ℕ) → 0 < i → i ≤ 2 * get_or s 0 0 → get_or t i 0 ≡ get_or s i 0) → scope_in img t ≡ scope_in img s
scope_same img s t e h = rw e (from_same img s t (min (get_or s 0 0) 512) (λ i z b. h i z (omega (arith, b))))

module _ (s : List ℕ) (key v : ℕ) (names : get_or s 0 0 < 512) (size : 1025 ≤ length s) where
  abbrev k : ℕ
  k = get_or s 0 0

  abbrev keyed : List ℕ
  keyed = set s (2 * k + 1) key

  abbrev filled : List ℕ
  filled = set keyed (2 * k + 2) v

  abbrev more : List ℕ
  more = set filled 0 (k + 1)

  filled_length : length filled ≡ length s
  filled_length = simp length-set

  more_count : get_or more 0 0 ≡ k + 1
  more_count = get_or-set_same filled 0 (k + 1) 0 (omega (arith, filled_length))

  -- a cell behind the count
  cell : (i : ℕ) → 0 < i → get_or more i 0 ≡ get_or filled i 0
  cell i z = get_or-set_other filled 0 i (k + 1) 0 (omega arith)

  more_kept : (i : ℕ) → 0 < i → i ≤ 2 * k → get_or more i 0 ≡ get_or s i 0
  more_kept i z h =
      cell i z ∙ get_or-set_other keyed (2 * k + 2) i v 0 (omega arith) ∙ get_or-set_other s (2 * k + 1) i key 0 (omega arith)

  more_key : get_or more (2 * k + 1) 0 ≡ key
  more_key =
      cell (2 * k + 1) (omega arith) ∙ get_or-set_other keyed (2 * k + 2) (2 * k + 1) v 0 (omega arith) ∙ get_or-set_same s (2 * k + 1) key 0 (omega arith)

  more_cell : get_or more (2 * k + 2) 0 ≡ v
  more_cell = cell (2 * k + 2) (omega arith) ∙ get_or-set_same keyed (2 * k + 2) v 0 (simp length-set (omega arith))

  module _ (img : List ℕ) (p r : ℕ) (b : Beside img p (r % 256) v) where
    more_reg : reg_no more k ≡ r % 256
    more_reg = let low : number_in v % 256 ≡ r % 256 = omega (arith, b.number) in rw more_cell low

    one_more : key ≡ key_of (name_at img p) → scope_of img more (suc k) ≡ with_name (name_at img p) (r % 256) (scope_of img s k)
    unfolding scope_of pick
    one_more e = rw (more_reg, more_key, more_cell, b.name, eq-eqb key (key_of (name_at img p)) e, from_same img s more k more_kept) refl

    pub bound : key ≡ key_of (name_at img p) → Binds img p r s more
    bound e = record {
      scope =
          let n : min (get_or more 0 0) 512 ≡ suc k = omega (arith, more_count) in
          let m : min k 512 ≡ k = omega arith in
          rw (n, m) (one_more e);
      frame = record { least = omega (arith, more_count); most = omega (arith, more_count); kept = more_kept };
      count = more_count;
      reg = more_reg;
    }

-- The count that was there, put back.
module _ (img : List ℕ) {s t : List ℕ} {k : ℕ} (f : Frame s t k) (z : 0 < length t) where
  back_count : get_or (set t 0 (get_or s 0 0)) 0 0 ≡ get_or s 0 0
  back_count = get_or-set_same t 0 (get_or s 0 0) 0 z

  back_kept : (i : ℕ) → 0 < i → i ≤ 2 * get_or s 0 0 → get_or (set t 0 (get_or s 0 0)) i 0 ≡ get_or s i 0
  back_kept i y b = get_or-set_other t 0 i (get_or s 0 0) 0 (omega arith) ∙ f.kept i y b

  pub put_back : scope_in img (set t 0 (get_or s 0 0)) ≡ scope_in img s
  put_back = scope_same img s (set t 0 (get_or s 0 0)) back_count back_kept

  pub back_frame : (j : ℕ) → Frame s (set t 0 (get_or s 0 0)) j
  back_frame j = record { least = omega (arith, back_count); most = omega (arith, back_count); kept = back_kept }

pub fewer : {img t N s : List ℕ} {j k : ℕ} → Ready img t N s k → j ≤ k → Ready img t N s j
fewer a h = record { known = a.known; names = omega (arith, a.names, h); size = a.size }

pub behind : {img t N s s' : List ℕ} {j k : ℕ} → Ready img t N s (j + k) → Frame s s' k → length s' ≡ length s → Ready img t N s' j
behind a f e = record { known = a.known; names = omega (arith, a.names, f.most); size = omega (arith, a.size, e) }

pub behind_one : {img t N s s' : List ℕ} {k : ℕ} → Ready img t N s (suc k) → Frame s s' 1 → length s' ≡ length s → Ready img t N s' k
behind_one a f e = record { known = a.known; names = omega (arith, a.names, f.most); size = omega (arith, a.size, e) }
