-- The check of a whole image: what its definition says at each way that the code goes.
-- Assumes nothing.
use Rattle.std.specs.Prelude.{}
use mathlib.Core.Path.{◌≡◌, ◌∙◌, refl, sym, ap}
use mathlib.Core.Bool.{true, false}
use mathlib.Core.List.{List}
use Prim.Native.Nat.{ℕ, suc, ◌+◌, ◌≤◌, ◌<◌}
use native.Mathlib.Omega.{arith}
use borrow.Author.Tests.{lt-ltb, le-ltb}
use lib.ListN.{length}
use Rattle.rules.specs.Bytes.{pick, le32, kind_at}
use Rattle.rules.specs.Grammar.{Contract, class_of}
use Rattle.rules.specs.Check.{unframed, undue, counts, crowded, own_of, header_of, refusal_of, vars_in_lem, record_of, whole_of, check_of}
use Rattle.rules.specs.Seen.{Seen, Sound, Fault}
use Rattle.image.specs.Leaves.{leaf}
use Rattle.image.specs.Within.{parts_in}
use Rattle.image.proofs.Header.{refuse_0, refuse_2, refuse_3}
use Rattle.image.proofs.Steps.{apart, record_refused, part_open}

module _ (s : List ℕ) where
  pub check_long : 65536 < length s → Fault 1 0 ≡ check_of s
  unfolding pick check_of
  check_long h = rw (lt-ltb 65536 (length s) h)

  left_whole : (q m : ℕ) → q < length s → whole_of s (Sound q m) ≡ Fault 4 q
  unfolding pick whole_of
  left_whole q m l = rw (lt-ltb q (length s) l)

  no_more_whole : (q m : ℕ) → length s ≤ q → whole_of s (Sound q m) ≡ Sound q m
  unfolding pick whole_of
  no_more_whole q m l = rw (le-ltb q (length s) l)

  module _ (h : length s ≤ 65536) where
    whole_is : (a : Seen) → record_of 64 s 0 (length s) Contract 0 0 ≡ a → whole_of s a ≡ check_of s
    unfolding pick check_of
    whole_is a e = rw (le-ltb 65536 (length s) h, e)

    check_refused : (number : ℕ) → refusal_of (header_of s 0 (length s) 64 Contract 0 0) ≡ suc number → Fault (suc number) 0 ≡ check_of s
    unfolding whole_of
    check_refused number e =
        ap (λ (x : ℕ). Fault x 0) (sym e) ∙ whole_is _ (record_refused s 0 (length s) Contract 0 0 64 (λ y. let z = sym e ∙ y in omega arith))

    pub check_unframed : unframed s 0 (length s) ≡ true → Fault 2 0 ≡ check_of s
    check_unframed f = check_refused 1 (refuse_2 s 0 (length s) 64 Contract 0 0 f)

    -- Where the Contract is due, its kind alone decides of a framed header.
    module _ (f : unframed s 0 (length s) ≡ false) where
      pub check_other : (kind_at s 0 ≡ 16 → ⊥) → Fault 3 0 ≡ check_of s
      unfolding undue class_of
      check_other z = check_refused 2 (refuse_3 s 0 (length s) 64 Contract 0 0 f refl (apart (kind_at s 0) 16 z))

    module _ (f : unframed s 0 (length s) ≡ false) (k : kind_at s 0 ≡ 16) where
      none : refusal_of (header_of s 0 (length s) 64 Contract 0 0) ≡ 0
      unfolding pick undue class_of crowded counts own_of
      none = refuse_0 s 0 (length s) 64 Contract 0 0 f refl (rw k refl) (rw k refl) (rw k refl)

      contract_parts : record_of 64 s 0 (length s) Contract 0 0 ≡ parts_in 63 s 6 (4 + le32 s 0) Contract 16 0
      unfolding pick leaf vars_in_lem counts
      contract_parts = part_open s 0 (length s) Contract 0 0 64 none (ap leaf k) ∙ rw k refl

      pub check_fault : (number place : ℕ) → parts_in 63 s 6 (4 + le32 s 0) Contract 16 0 ≡ Fault number place → Fault number place ≡ check_of s
      unfolding whole_of
      check_fault number place g = whole_is _ (contract_parts ∙ g)

      module _ (q m : ℕ) (g : parts_in 63 s 6 (4 + le32 s 0) Contract 16 0 ≡ Sound q m) (z : q ≡ 4 + le32 s 0) where
        ends : record_of 64 s 0 (length s) Contract 0 0 ≡ Sound (4 + le32 s 0) m
        ends = contract_parts ∙ g ∙ ap (λ (x : ℕ). Sound x m) z

        pub check_left : 4 + le32 s 0 < length s → Fault 4 (4 + le32 s 0) ≡ check_of s
        check_left l = sym (left_whole (4 + le32 s 0) m l) ∙ whole_is _ ends

        pub check_sound : length s ≤ 4 + le32 s 0 → Sound (4 + le32 s 0) m ≡ check_of s
        check_sound l = sym (no_more_whole (4 + le32 s 0) m l) ∙ whole_is _ ends
