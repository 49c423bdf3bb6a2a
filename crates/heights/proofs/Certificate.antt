-- A map of heights that is right at each word gives the law for every path. It knows nothing of a generator.
-- Assumes nothing.
use Rattle.std.specs.Prelude.{◌≡◌, ◌⊎◌, List, ℕ, suc, ◌+◌, ◌-◌, ◌≤◌}
use Rattle.std.proofs.Math.Path.{refl, subst}
use Rattle.std.proofs.Common.{sym, subst₂, inl, inr, arith}
use Rattle.std.proofs.Math.Logic.{⊎_map}
use Rattle.isa.specs.declared.Opcode.{Opcode}
use Rattle.isa.specs.declared.Opcode.TheVariants as op
use Rattle.heights.specs.Positions.{at_one, lands_one}
use Rattle.heights.specs.Entries.{Apart}
use Rattle.rules.specs.Machine.{Kind, Imm, Word, Entry, At, kind, Lands, Starts, Moves, Path, start, step, Heights, Way}
use Rattle.heights.specs.Certificate.{Certified, Right}

module _ (T : List Entry) (apart : Apart T) (H : ℕ → ℕ → Type 0) where
  -- A height of the map, under other names of its index and height.
  at : {a b x y : ℕ} → H a x → b ≡ a → y ≡ x → H b y
  at h p q = subst₂ H (sym p) (sym q) h

  -- The certificate's call and the path's are of one function.
  same_call : (i x : ℕ) (d : Imm) (r : Right T H i x d Kind.calls) (e t : ℕ) → Lands i d e → Starts T e t → r.1 ≡ t
  unfolding Apart
  same_call i x d r e t l s = apart e r.1 t (subst (λ (a : ℕ). Starts T a r.1) (lands_one i d r.0 e r.3 l) r.4) s

  -- Where the path goes on, the map has it.
  goes : (i x : ℕ) (d : Imm) (y : Way) (k : Kind) → Right T H i x d k → (t g j : ℕ) → Moves T i d y k t g j
      → (rest : ℕ) → t + rest ≡ x → H j (rest + g)
  goes i x d y Kind.plain r t g j m rest e = at r m.2 (omega arith)
  goes i x d y Kind.pushes r t g j m rest e = at r m.2 (omega arith)
  goes i x d y Kind.pops r t g j m rest e = at r.2 m.2 (omega arith)
  goes i x d y Kind.jumps r t g j m rest e = at r.2 (lands_one i d j r.0 m.2 r.1) (omega arith)
  goes i x d Way.jump Kind.forks r t g j m rest e = at r.2 (lands_one i d j r.0 m.2 r.1) (omega arith)
  goes i x d Way.pass Kind.forks r t g j m rest e = at r.3 m.2 (omega arith)
  goes i x d y Kind.calls r t g j m rest e = let same : r.1 ≡ t = same_call i x d r m.0 t m.1 m.2 in at r.6 m.4 (omega arith)
  goes i x d y Kind.ends r t g j m rest e = absurd m
  goes i x d y Kind.stuck r t g j m rest e = absurd m

  -- What a word takes is there.
  takes : (i x : ℕ) (d : Imm) (y : Way) (k : Kind) → Right T H i x d k → (t g j : ℕ) → Moves T i d y k t g j → t ≤ x
  takes i x d y Kind.plain r t g j m = omega arith
  takes i x d y Kind.pushes r t g j m = omega arith
  takes i x d y Kind.pops r t g j m = omega arith
  takes i x d y Kind.jumps r t g j m = omega arith
  takes i x d Way.jump Kind.forks r t g j m = omega arith
  takes i x d Way.pass Kind.forks r t g j m = omega arith
  takes i x d y Kind.calls r t g j m = let same : r.1 ≡ t = same_call i x d r m.0 t m.1 m.2 in omega arith
  takes i x d y Kind.ends r t g j m = absurd m
  takes i x d y Kind.stuck r t g j m = absurd m

  -- A word that is right is an end at height two, or moves, whichever way is chosen.
  moves : (i x : ℕ) (d : Imm) (y : Way) (k : Kind) → Right T H i x d k
      → ((k ≡ Kind.ends) × (x ≡ 2)) ⊎ ((t : ℕ) × (g : ℕ) × (j : ℕ) × Moves T i d y k t g j)
  moves i x d y Kind.plain r = inr (0, 0, suc i, (refl, refl, refl))
  moves i x d y Kind.pushes r = inr (0, 1, suc i, (refl, refl, refl))
  moves i x d y Kind.pops r = inr (1, 0, suc i, (refl, refl, refl))
  moves i x d y Kind.jumps r = inr (0, 0, r.0, (refl, refl, r.1))
  moves i x d Way.jump Kind.forks r = inr (0, 0, r.0, (refl, refl, r.1))
  moves i x d Way.pass Kind.forks r = inr (0, 0, suc i, (refl, refl, refl))
  moves i x d y Kind.calls r = inr (r.1, 1, suc i, (r.0, r.3, r.4, refl, refl))
  moves i x d y Kind.ends r = inl (refl, r)
  moves i x d y Kind.stuck r = absurd r

-- Only a Ret ends.
pub only_ret : (o : Opcode) → kind o ≡ Kind.ends → o ≡ op.Ret
only_ret op.Halt e = cc
only_ret op.Add e = cc
only_ret op.Sub e = cc
only_ret op.Mul e = cc
only_ret op.Div e = cc
only_ret op.Inv e = cc
only_ret op.And e = cc
only_ret op.Or e = cc
only_ret op.Xor e = cc
only_ret op.Not e = cc
only_ret op.Eq e = cc
only_ret op.Neq e = cc
only_ret op.Lt e = cc
only_ret op.Gt e = cc
only_ret op.Lte e = cc
only_ret op.Gte e = cc
only_ret op.Jmp e = cc
only_ret op.Jnz e = cc
only_ret op.Call e = cc
only_ret op.Ret e = refl
only_ret op.Load e = cc
only_ret op.Store e = cc
only_ret op.Push e = cc
only_ret op.Pop e = cc
only_ret op.Assert e = cc
only_ret op.Poseidon e = cc
only_ret op.Log e = cc
only_ret op.SRead e = cc
only_ret op.SWrite e = cc
only_ret op.Syscall e = cc
only_ret op.VerifyMerkle e = cc

module _ (C : List Word) (T : List Entry) (apart : Apart T) (f : Entry) (H : ℕ → ℕ → Type 0) (c : Certified C T f H) where
  -- The word that a path meets is the one that the certificate judged.
  judged : (i x : ℕ) → H i x → (w : Word) → At C i w → Right T H i x w.imm (kind w.op)
  judged i x h w a = subst (λ (v : Word). Right T H i x v.imm (kind v.op)) (at_one C i r.0 w r.1 a) r.2
    where
      r : (v : Word) × At C i v × Right T H i x v.imm (kind v.op)
      r = c.right i x h

  -- Every path is on the map.
  on_map : {i h : ℕ} → Path C T f i h → H i h
  on_map start = c.begins
  on_map (step {i} {h} p w a y t g j m rest e) =
      goes T apart H i h w.imm y (kind w.op) (judged i h (on_map p) w a) t g j m rest e

  stops_at : (i h : ℕ) (y : Way) → (w : Word) × At C i w × Right T H i h w.imm (kind w.op)
      → (w : Word) × At C i w × (((w.op ≡ op.Ret) × (h ≡ 2)) ⊎ ((t : ℕ) × (g : ℕ) × (j : ℕ) × Moves T i w.imm y (kind w.op) t g j))
  stops_at i h y (w, a, r) = (w, a, ⊎_map (λ e. (only_ret w.op e.0, e.1)) (λ m. m) (moves T apart H i h w.imm y (kind w.op) r))

  -- A certificate gives the law.
  pub heights : Heights C T f
  heights = record {
    stays = λ i h p. c.inside i h (on_map p);
    enough = λ i h p w a y t g j m. takes T apart H i h w.imm y (kind w.op) (judged i h (on_map p) w a) t g j m;
    one_height = λ i h h' p q. c.single i h h' (on_map p) (on_map q);
    stops = λ i h p y. stops_at i h y (c.right i h (on_map p));
  }

-- The other way round: where the law holds, the heights that paths reach are a certificate. So a checker that looks for
-- a certificate refuses nothing that obeys the law.
module _ (C : List Word) (T : List Entry) (f : Entry) (law : Heights C T f) where
  -- What a word takes is there, so the path goes on.
  reach : (i h : ℕ) → Path C T f i h → (w : Word) → At C i w → (y : Way) (t g j : ℕ) → Moves T i w.imm y (kind w.op) t g j
      → (rest : ℕ) × (t + rest ≡ h) × Path C T f j (rest + g)
  reach i h p w a y t g j m =
      let b : t ≤ h = law.enough i h p w a y t g j m in
      (h - t, omega arith, step p w a y t g j m (h - t) (omega arith))

  to : (i j x y : ℕ) → Path C T f i x → j ≡ i → y ≡ x → Path C T f j y
  to i j x y p q r = subst₂ (Path C T f) (sym q) (sym r) p

  -- What the law says at a word, for one way.
  Choice : ℕ → ℕ → Word → Way → Type 0
  Choice i h w y = ((w.op ≡ op.Ret) × (h ≡ 2)) ⊎ ((t : ℕ) × (g : ℕ) × (j : ℕ) × Moves T i w.imm y (kind w.op) t g j)

  choice : (i h : ℕ) → Path C T f i h → (w : Word) → At C i w → (y : Way) → Choice i h w y
  unfolding Choice
  choice i h p w a y = let (v, b, m) = law.stops i h p y in subst (λ (x : Word). Choice i h x y) (at_one C i v w b a) m

  module _ (i h : ℕ) (p : Path C T f i h) (w : Word) (a : At C i w) where
    go : (k : Kind) → kind w.op ≡ k → (y : Way) (t g j : ℕ) → Moves T i w.imm y k t g j → (rest : ℕ) × (t + rest ≡ h) × Path C T f j (rest + g)
    go k e y t g j m = reach i h p w a y t g j (subst (λ (x : Kind). Moves T i w.imm y x t g j) (sym e) m)

    -- Where it goes on both ways, the word is right.
    right_from : (k : Kind) → kind w.op ≡ k
        → (t g j : ℕ) → Moves T i w.imm Way.pass k t g j → (t g j : ℕ) → Moves T i w.imm Way.jump k t g j → Right T (Path C T f) i h w.imm k
    right_from Kind.plain e t g j m _ _ _ _ = let (r, q, z) = go Kind.plain e Way.pass t g j m in to j (suc i) (r + g) h z (sym m.2) (omega arith)
    right_from Kind.pushes e t g j m _ _ _ _ = let (r, q, z) = go Kind.pushes e Way.pass t g j m in to j (suc i) (r + g) (suc h) z (sym m.2) (omega arith)
    right_from Kind.pops e t g j m _ _ _ _ = let (r, q, z) = go Kind.pops e Way.pass t g j m in (r, omega arith, to j (suc i) (r + g) r z (sym m.2) (omega arith))
    right_from Kind.jumps e t g j m _ _ _ _ = let (r, q, z) = go Kind.jumps e Way.pass t g j m in (j, m.2, to j j (r + g) h z refl (omega arith))
    right_from Kind.forks e t g j m t' g' j' m' =
        let (r, q, z) = go Kind.forks e Way.pass t g j m in let (r', q', z') = go Kind.forks e Way.jump t' g' j' m' in
        (j', m'.2, to j' j' (r' + g') h z' refl (omega arith), to j (suc i) (r + g) h z (sym m.2) (omega arith))
    right_from Kind.calls e t g j m _ _ _ _ = let (r, q, z) = go Kind.calls e Way.pass t g j m in
        (m.0, t, r, m.1, m.2, q, to j (suc i) (r + g) (suc r) z (sym m.4) (omega arith))
    right_from Kind.ends e t g j m _ _ _ _ = absurd m
    right_from Kind.stuck e t g j m _ _ _ _ = absurd m

    at_ret : w.op ≡ op.Ret → h ≡ 2 → Right T (Path C T f) i h w.imm (kind w.op)
    at_ret e q = subst (λ (o : Opcode). Right T (Path C T f) i h w.imm (kind o)) (sym e) q

    by_choice : Choice i h w Way.pass → Choice i h w Way.jump → Right T (Path C T f) i h w.imm (kind w.op)
    unfolding Choice
    by_choice (inl (e, q)) c = at_ret e q
    by_choice (inr m) (inl (e, q)) = at_ret e q
    by_choice (inr (t, g, j, m)) (inr (t', g', j', m')) = right_from (kind w.op) refl t g j m t' g' j' m'

  -- The law gives a certificate.
  pub certified_by_law : Certified C T f (Path C T f)
  certified_by_law = record {
    inside = law.stays;
    single = λ i x y p q. law.one_height i x y p q;
    begins = start;
    right = λ i x p. let (w, a, m) = law.stops i x p Way.pass in (w, a, by_choice i x p w a (choice i x p w a Way.pass) (choice i x p w a Way.jump));
  }
