-- What follows from the law of heights, for any words and table: paths go on, unmet words are free, and of an entry only its first
-- word, its parameters and its end matter. It knows nothing of a generator.
-- Assumes nothing.
use Rattle.std.specs.Prelude.{◌≡◌, refl, ◌⊎◌, List, ℕ, suc, ◌+◌, ◌-◌, ◌≤◌, ◌<◌}
use Rattle.std.proofs.Common.{sym, ap, subst, subst₂, ◌∙◌, inl, inr, arith}
use Rattle.std.proofs.Math.Logic.{⊎_map}
use Rattle.isa.specs.declared.Opcode.{Opcode}
use Rattle.isa.specs.declared.Opcode.TheVariants as op
use Rattle.rules.specs.Machine.{Kind, Imm, Word, Entry, At, kind, Way, Moves, Path, start, step, Heights}
use Rattle.heights.specs.Positions.{at_one}
use Rattle.heights.specs.Entries.{Like, Alike, like_back, alike_back, alike_starts}

-- One step: from index i at height h to index j at height x, by the word there; at a Jnz the way y.
unfoldable pub Next : List Word → List Entry → Way → (i h j x : ℕ) → Type 0
Next C T y i h j x = (w : Word) × At C i w × (t : ℕ) × (g : ℕ) × (rest : ℕ)
    × Moves T i w.imm y (kind w.op) t g j × (t + rest ≡ h) × (x ≡ rest + g)

-- A path and a step are a path.
pub path_next : (C : List Word) (T : List Entry) (f : Entry) (y : Way) (i h j x : ℕ) → Path C T f i h → Next C T y i h j x → Path C T f j x
unfolding Next
path_next C T f y i h j x p (w, a, t, g, rest, m, e, q) = subst (Path C T f j) (sym q) (step p w a y t g j m rest e)

-- A word at index i where a path stops: a Ret, at height two.
unfoldable pub Stopped : List Word → (i h : ℕ) → Type 0
Stopped C i h = (w : Word) × At C i w × (w.op ≡ op.Ret) × (h ≡ 2)

-- Some path of the function comes to a Ret, at height two.
unfoldable pub Home : List Word → List Entry → Entry → Type 0
Home C T f = (i : ℕ) × Stopped C i 2 × Path C T f i 2

-- The law is not about nothing: a path that is not at a Ret goes on, whichever way is chosen.
pub goes_on : (C : List Word) (T : List Entry) (f : Entry) → Heights C T f → (y : Way) (i h : ℕ) → Path C T f i h
    → Stopped C i h ⊎ ((j : ℕ) × (x : ℕ) × Next C T y i h j x)
unfolding Next Stopped
goes_on C T f law y i h p = by_word (law.stops i h p y)
  where
    by_word : (w : Word) × At C i w × (((w.op ≡ op.Ret) × (h ≡ 2)) ⊎ ((t : ℕ) × (g : ℕ) × (j : ℕ) × Moves T i w.imm y (kind w.op) t g j))
        → Stopped C i h ⊎ ((j : ℕ) × (x : ℕ) × Next C T y i h j x)
    by_word (w, a, inl (r, e)) = inl (w, a, r, e)
    by_word (w, a, inr (t, g, j, m)) =
        let b : t ≤ h = law.enough i h p w a y t g j m in
        inr (j, h - t + g, (w, a, t, g, h - t, m, omega arith, refl))

-- At a Ret the height is two.
pub ret_at_two : (C : List Word) (T : List Entry) (f : Entry) → Heights C T f → (i h : ℕ) → Path C T f i h → (w : Word) → At C i w → w.op ≡ op.Ret → h ≡ 2
ret_at_two C T f law i h p w a e = by_word (law.stops i h p Way.pass)
  where
    by_word : (v : Word) × At C i v × (((v.op ≡ op.Ret) × (h ≡ 2)) ⊎ ((t : ℕ) × (g : ℕ) × (j : ℕ) × Moves T i v.imm Way.pass (kind v.op) t g j)) → h ≡ 2
    by_word (v, b, inl (r, q)) = q
    by_word (v, b, inr (t, g, j, m)) = absurd (subst (λ (o : Opcode). Moves T i v.imm Way.pass (kind o) t g j) (ap (λ (x : Word). x.op) (at_one C i v w b a) ∙ e) m)

-- Words that no path meets may be anything: dead code behind a Return, or what stands between functions.
module _ (C D : List Word) (T : List Entry) (f : Entry) (same : (i h : ℕ) (w : Word) → Path C T f i h → At C i w → At D i w) (law : Heights C T f) where
  -- What a path of D meets is what stood there in C.
  met : (i h : ℕ) → Path C T f i h → (w : Word) → At D i w → At C i w
  met i h p w a = let (v, b, m) = law.stops i h p Way.pass in subst (At C i) (at_one D i v w (same i h v p b) a) b

  -- A path of D is one of C.
  back : {i h : ℕ} → Path D T f i h → Path C T f i h
  back start = start
  back (step {i} {h} p w a y t g j m rest e) = step (back p) w (met i h (back p) w a) y t g j m rest e

  -- So D obeys the law.
  pub unmet_free : Heights D T f
  unmet_free = record {
    stays = λ i h p. law.stays i h (back p);
    enough = λ i h p w a y t g j m. law.enough i h (back p) w (met i h (back p) w a) y t g j m;
    one_height = λ i h h' p q. law.one_height i h h' (back p) (back q);
    stops = λ i h p y. let (w, a, m) = law.stops i h (back p) y in (w, same i h w (back p) a, m);
  }

-- What moves by one table moves by the other.
alike_moves : (T U : List Entry) → Alike T U → (i : ℕ) (d : Imm) (y : Way) (k : Kind) (t g j : ℕ) → Moves T i d y k t g j → Moves U i d y k t g j
alike_moves T U a i d y Kind.plain t g j m = m
alike_moves T U a i d y Kind.pushes t g j m = m
alike_moves T U a i d y Kind.pops t g j m = m
alike_moves T U a i d y Kind.jumps t g j m = m
alike_moves T U a i d Way.jump Kind.forks t g j m = m
alike_moves T U a i d Way.pass Kind.forks t g j m = m
alike_moves T U a i d y Kind.calls t g j (e, l, s, m, n) = (e, l, alike_starts T U a e t s, m, n)
alike_moves T U a i d y Kind.ends t g j m = m
alike_moves T U a i d y Kind.stuck t g j m = m

module _ (C : List Word) (T U : List Entry) (alike : Alike T U) (e d : Entry) (like : Like e d) where
  -- A path by one table is a path by the other.
  pub alike_path : {i h : ℕ} → Path C T e i h → Path C U d i h
  alike_path start = subst₂ (Path C U d) (sym like.0) (ap suc (sym like.1)) start
  alike_path (step {i} {h} p w a y t g j m rest q) = step (alike_path p) w a y t g j (alike_moves T U alike i w.imm y (kind w.op) t g j m) rest q

module _ (C : List Word) (T U : List Entry) (alike : Alike T U) (e d : Entry) (like : Like e d) (law : Heights C T e) where
  -- And the law goes over.
  other : {i h : ℕ} → Path C U d i h → Path C T e i h
  other p = alike_path C U T (alike_back T U alike) d e (like_back e d like) p

  -- So it holds by the other table.
  pub alike_heights : Heights C U d
  alike_heights = record {
    stays = λ i h p. subst₂ (λ (a b : ℕ). (a ≤ i) × (i < b)) like.0 like.2 (law.stays i h (other p));
    enough = λ i h p w a y t g j m. law.enough i h (other p) w a y t g j (alike_moves U T (alike_back T U alike) i w.imm y (kind w.op) t g j m);
    one_height = λ i h h' p q. law.one_height i h h' (other p) (other q);
    stops = λ i h p y. let (w, a, m) = law.stops i h (other p) y in
        (w, a, ⊎_map (λ r. r) (λ (s : (t : ℕ) × (g : ℕ) × (j : ℕ) × Moves T i w.imm y (kind w.op) t g j). (s.0, s.1, s.2, alike_moves T U alike i w.imm y (kind w.op) s.0 s.1 s.2 s.3)) m);
  }

-- A path that comes to a Ret does so by the other table.
pub alike_home : (C : List Word) (T U : List Entry) → Alike T U → (e d : Entry) → Like e d → Home C T e → Home C U d
unfolding Home
alike_home C T U a e d l (i, s, p) = (i, s, alike_path C T U a e d l p)
