-- The two shapes of control flow, an If and a loop, put together from pieces.
-- Assumes nothing.
use Rattle.std.specs.Prelude.{◌≡◌}
use Rattle.std.proofs.Math.Path.{refl, ap, ap₂, subst}
use Rattle.std.proofs.Common.{sym, ◌∙◌, inr, arith}
use Rattle.std.proofs.Math.Logic.{inl}
use mathlib.Core.List.{List, [], ◌∷◌, ◌++◌, map-append}
use Prim.Native.Nat.{ℕ, suc, ◌+◌}
use Rattle.std.proofs.Math.ListN.{length, length-append}
use Rattle.isa.specs.declared.Opcode.TheVariants as op
use Rattle.rules.specs.Machine.{Imm, At}
use Rattle.rules.specs.Emit.{Open, emit, jump, branches, loops}
use Rattle.heights.specs.Positions.{Stands, stands_left, stands_right}
use Rattle.heights.specs.Segment.{Reading, Noted, Holds, tops, tops_append, Place, Goes, flow, Sounds, enter, onward, Leaves, leaves_after, leaves_on, Piece, noted, glue, beyond, move, sounds_up, sounds_append}

-- The first of words that stand somewhere.
first_of : (whole : List Open) (d : ℕ) (o : Open) (ws : List Open) → Stands whole d (o ∷ ws) → At whole d o
first_of whole d o ws s = subst (λ (n : ℕ). At whole n o) (omega arith) (s 0 o refl)

module _ (M : Reading) where
  -- Over a fork to the first piece, which leaves as b says, and a jump past the second.
  branch_leaves : (z r : ℕ) (e t : List Open) (b : M.Note) (whole : List Open) (d : ℕ) (s : M.State) → Stands whole d (branches z r e t)
      → (Stands whole (suc d) e → Leaves M whole (suc d) s (suc d + length e) (b ∷ [])) → Leaves M whole d s (d + length (branches z r e t)) (b ∷ [])
  unfolding branches
  branch_leaves z r e t b whole d s at in_first =
      leaves_after M whole d (suc d) _ s s (b ∷ []) (onward enter fork (first_of whole d fork _ at) (suc d) s (inr refl, refl))
      (leaves_on M whole (suc d) (suc d + length e) _ s b (b ∷ []) (in_first (stands_left whole (suc d) e (over ∷ t) behind)) (λ u h.
      (d + length (branches z r e t), u, onward enter over (first_of whole _ over t (stands_right whole (suc d) _ e (over ∷ t) refl behind)) _ u (omega (arith, length-append e (over ∷ t)), refl), inl (refl, h))))
    where
      fork : Open
      fork = jump z op.Jnz r (Imm.pos (length e + 2))

      over : Open
      over = jump z op.Jmp 0 (Imm.pos (length t + 1))

      behind : Stands whole (suc d) (e ++ (over ∷ t))
      behind = stands_right whole d (suc d) (fork ∷ []) (e ++ (over ∷ t)) (omega arith) at

  -- Over a condition, past the fork, and out.
  loop_leaves : (z r : ℕ) (c w : List Open) (b : M.Note) (whole : List Open) (d : ℕ) (s : M.State) → Stands whole d (loops z r c w)
      → (Stands whole d c → Leaves M whole d s (d + length c) (b ∷ [])) → Leaves M whole d s (d + length (loops z r c w)) (b ∷ [])
  unfolding loops
  loop_leaves z r c w b whole d s at in_first =
      leaves_on M whole d (d + length c) _ s b (b ∷ []) (in_first (stands_left whole d c _ at)) (λ u h.
      leaves_after M whole (d + length c) (suc (d + length c)) _ u u (b ∷ []) (onward enter fork (first_of whole _ fork (out ∷ (w ++ (back ∷ []))) behind) _ u (inr refl, refl))
      (d + length (loops z r c w), u, onward enter out (first_of whole _ out (w ++ (back ∷ [])) (stands_right whole (d + length c) _ (fork ∷ []) (out ∷ (w ++ (back ∷ []))) (omega arith) behind)) _ u (omega (arith, length-append c (fork ∷ out ∷ (w ++ (back ∷ []))), length-append w (back ∷ [])), refl), inl (refl, h)))
    where
      fork : Open
      fork = jump z op.Jnz r (Imm.pos 2)

      out : Open
      out = jump z op.Jmp 0 (Imm.pos (length w + 2))

      back : Open
      back = emit z op.Jmp 0 0 0 (Imm.neg (length c + 2 + length w))

      behind : Stands whole (d + length c) (fork ∷ out ∷ (w ++ (back ∷ [])))
      behind = stands_right whole d (d + length c) c _ refl at

  -- A fork to what stands behind both, the piece for the other way, and a jump over the second.
  pub branch : (z r : ℕ) {e t : List Open} {a b : M.Note} → Piece M e a (b ∷ []) → Piece M t a (b ∷ []) → Piece M (branches z r e t) a (b ∷ [])
  unfolding branches
  branch z r {e} {t} {a} {b} p q =
      record {
        notes = all;
        words = ap (λ (l : List Open). fork ∷ l) (map-append _ m ((b, over) ∷ n) ∙ ap₂ (λ (x y : List Open). x ++ (over ∷ y)) p.words q.words);
        begins = λ s h. h;
        sound = subst (λ (l : List M.Note). Sounds M (Holds M l) 0 all) (sym same) (at_fork, sounds_append M H 1 (suc (length m)) m ((b, over) ∷ n) first (omega arith) (at_over, second));
        leaves = λ whole d at s h. branch_leaves z r e t b whole d s at (λ on. p.leaves whole (suc d) on s h);
      }
    where
      m : List (Noted M)
      m = p.notes

      n : List (Noted M)
      n = q.notes

      fork : Open
      fork = jump z op.Jnz r (Imm.pos (length e + 2))

      over : Open
      over = jump z op.Jmp 0 (Imm.pos (length t + 1))

      all : List (Noted M)
      all = (a, fork) ∷ (m ++ ((b, over) ∷ n))

      rest : List M.Note
      rest = b ∷ tops M n (b ∷ [])

      line : List M.Note
      line = a ∷ tops M m rest

      same : tops M all (b ∷ []) ≡ line
      same = ap (λ (l : List M.Note). a ∷ l) (tops_append M m ((b, over) ∷ n) (b ∷ []))

      H : Place M
      H = Holds M line

      in_first : (j k : ℕ) (y : M.State) → Holds M (tops M m (b ∷ [])) j y → k ≡ 1 + j → H k y
      in_first j k y h i = move M H (suc j) k y (glue M m b rest (λ s x. x) j y h) (omega arith)

      first : Sounds M H 1 m
      first = sounds_up M (Holds M (tops M m (b ∷ []))) H 1 in_first 0 1 m refl p.sound

      in_second : (j k : ℕ) (y : M.State) → Holds M (tops M n (b ∷ [])) j y → k ≡ suc (suc (length m)) + j → H k y
      in_second j k y h i = move M H (suc (length m + suc j)) k y (beyond M m rest (suc j) y (length m + suc j) h refl) (omega arith)

      second : Sounds M H (suc (suc (length m))) n
      second = sounds_up M (Holds M (tops M n (b ∷ []))) H (suc (suc (length m))) in_second 0 (suc (suc (length m))) n (omega arith) q.sound

      at_fork : (s : M.State) → M.Means a s → Goes M H 0 s fork (flow fork)
      at_fork s h = (length e + 2, omega arith, in_second 0 (length e + 2) s (q.begins s h) (omega (arith, noted M p)), in_first 0 1 s (p.begins s h) refl)

      at_over : (s : M.State) → M.Means b s → Goes M H (suc (length m)) s over (flow over)
      at_over s h = (suc (suc (length m)) + length n, omega (arith, noted M q), in_second (length n) (suc (suc (length m)) + length n) s (beyond M n (b ∷ []) 0 s (length n) h (omega arith)) refl)

  -- A condition, a fork into the body, a jump past it, the body, and a jump back.
  pub loop : (z r : ℕ) {c w : List Open} {a b : M.Note} → Piece M c a (b ∷ []) → Piece M w b (a ∷ []) → Piece M (loops z r c w) a (b ∷ [])
  unfolding loops
  loop z r {c} {w} {a} {b} p q =
      record {
        notes = all;
        words = map-append _ m ((b, fork) ∷ (b, out) ∷ (n ++ ((a, back) ∷ [])))
            ∙ ap₂ (λ (x y : List Open). x ++ (fork ∷ out ∷ y)) p.words (map-append _ n ((a, back) ∷ []) ∙ ap (λ (x : List Open). x ++ (back ∷ [])) q.words);
        begins = λ s h. subst (λ (l : List M.Note). Holds M l 0 s) (sym same) (at_top s h);
        sound = subst (λ (l : List M.Note). Sounds M (Holds M l) 0 all) (sym same)
            (sounds_append M H 0 (length m) m ((b, fork) ∷ (b, out) ∷ (n ++ ((a, back) ∷ []))) first (omega arith)
            (at_fork, (at_out, sounds_append M H (suc (suc (length m))) (length n + suc (suc (length m))) n ((a, back) ∷ []) second refl (at_back, tt))));
        leaves = λ whole d at s h. loop_leaves z r c w b whole d s at (λ on. p.leaves whole d on s h);
      }
    where
      m : List (Noted M)
      m = p.notes

      n : List (Noted M)
      n = q.notes

      fork : Open
      fork = jump z op.Jnz r (Imm.pos 2)

      out : Open
      out = jump z op.Jmp 0 (Imm.pos (length w + 2))

      back : Open
      back = emit z op.Jmp 0 0 0 (Imm.neg (length c + 2 + length w))

      all : List (Noted M)
      all = m ++ ((b, fork) ∷ (b, out) ∷ (n ++ ((a, back) ∷ [])))

      rest : List M.Note
      rest = b ∷ b ∷ tops M n (a ∷ b ∷ [])

      same : tops M all (b ∷ []) ≡ tops M m rest
      same = tops_append M m ((b, fork) ∷ (b, out) ∷ (n ++ ((a, back) ∷ []))) (b ∷ []) ∙ ap (λ (l : List M.Note). tops M m (b ∷ b ∷ l)) (tops_append M n ((a, back) ∷ []) (b ∷ []))

      H : Place M
      H = Holds M (tops M m rest)

      at_top : (s : M.State) → M.Means a s → H 0 s
      at_top s h = glue M m b rest (λ t x. x) 0 s (p.begins s h)

      first : Sounds M H 0 m
      first = sounds_up M (Holds M (tops M m (b ∷ []))) H 0 (λ j k y h i. move M H j k y (glue M m b rest (λ t x. x) j y h) (omega arith)) 0 0 m (omega arith) p.sound

      -- The places behind the condition.
      behind : (j k : ℕ) (y : M.State) → Holds M rest j y → k ≡ length m + j → H k y
      behind j k y h i = beyond M m rest j y k h i

      in_second : (j k : ℕ) (y : M.State) → Holds M (tops M n (a ∷ [])) j y → k ≡ suc (suc (length m)) + j → H k y
      in_second j k y h i = behind (suc (suc j)) k y (glue M n a (a ∷ b ∷ []) (λ t x. x) j y h) (omega arith)

      second : Sounds M H (suc (suc (length m))) n
      second = sounds_up M (Holds M (tops M n (a ∷ []))) H (suc (suc (length m))) in_second 0 (suc (suc (length m))) n (omega arith) q.sound

      at_fork : (s : M.State) → M.Means b s → Goes M H (length m) s fork (flow fork)
      at_fork s h = (length m + 2, refl, in_second 0 (length m + 2) s (q.begins s h) (omega arith), behind 1 (suc (length m)) s h (omega arith))

      at_out : (s : M.State) → M.Means b s → Goes M H (suc (length m)) s out (flow out)
      at_out s h = (
        length m + suc (suc (suc (length n))),
        omega (arith, noted M q),
        behind (suc (suc (suc (length n)))) (length m + suc (suc (suc (length n)))) s (beyond M n (a ∷ b ∷ []) 1 s (suc (length n)) h (omega arith)) refl,
      )

      at_back : (s : M.State) → M.Means a s → Goes M H (length n + suc (suc (length m))) s back (flow back)
      at_back s h = (0, omega (arith, noted M p, noted M q), at_top s h)
