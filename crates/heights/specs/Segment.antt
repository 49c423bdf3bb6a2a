-- Pieces of a function's words, with a note at each word of what is known there, wherever the piece comes to stand.
-- What a state is, and what a word does to it, is left open: heights are one reading of many.
-- Assumes nothing.
use Rattle.std.specs.Prelude.{◌≡◌, refl, ◌⊎◌, List, [], ◌∷◌, ◌++◌, map, ℕ, zero, suc, ◌+◌, length}
use Rattle.std.proofs.Common.{sym, ap, ap₂, subst, ◌∙◌, inl, inr, arith, length-append}
use Rattle.std.proofs.lemmas.List.{map-append, length-map}
use Rattle.heights.specs.Positions.{Stands, stands_left, stands_right, lands_up}
use Rattle.rules.specs.Machine.{Kind, Imm, At, kind, Lands}
use Rattle.rules.specs.Emit.{Open, word, calls}

-- A reading of words: states, notes on states, what a word that goes on to the next needs and does, and what an end needs.
pub record Reading : Type 1 where
  pub State : Type 0
  pub Note : Type 0
  pub Means : Note → State → Type 0
  pub Can : Open → State → Type 0
  pub Step : Open → State → State → Type 0
  pub End : State → Type 0
  -- where a word can, it does
  pub lives : (o : Open) (s : State) → Can o s → (t : State) × Step o s t

-- Where a path goes on after a word.
pub data Flow : Type 0 where
  on : Flow
  jumps forks : Imm → Flow
  ends stuck : Flow

-- By its kind.
abbrev pub flow_of : Kind → Imm → Flow
flow_of Kind.plain d = on
flow_of Kind.pushes d = on
flow_of Kind.pops d = on
flow_of Kind.jumps d = jumps d
flow_of Kind.forks d = forks d
flow_of Kind.calls d = stuck
flow_of Kind.ends d = ends
flow_of Kind.stuck d = stuck

-- An open call goes on.
abbrev pub flow : Open → Flow
flow (word p b w) = flow_of (kind w.op) w.imm
flow (calls p f) = on

module _ (M : Reading) where
  -- A word with what is known where it stands.
  abbrev pub Noted : Type 0
  Noted = M.Note × Open

  -- What the notes say of the state at an index.
  abbrev pub Holds : List M.Note → ℕ → M.State → Type 0
  Holds [] i s = ⊥
  Holds (a ∷ l) zero s = M.Means a s
  Holds (a ∷ l) (suc i) s = Holds l i s

  -- The notes of a piece and those after it.
  abbrev pub tops : List Noted → List M.Note → List M.Note
  tops [] es = es
  tops (p ∷ m) es = p.0 ∷ tops m es

  pub tops_append : (m n : List Noted) (es : List M.Note) → tops (m ++ n) es ≡ tops m (tops n es)
  tops_append [] n es = refl
  tops_append (p ∷ m) n es = ap (λ (l : List M.Note). p.0 ∷ l) (tops_append m n es)

  -- What is known of the state at each index.
  abbrev pub Place : Type 1
  Place = ℕ → M.State → Type 0

  -- From a state at index i the word does no wrong, and H holds wherever the path can go.
  abbrev pub Goes : Place → ℕ → M.State → Open → Flow → Type 0
  Goes H i s o on = M.Can o s × ((t : M.State) → M.Step o s t → H (suc i) t)
  Goes H i s o (jumps d) = (j : ℕ) × Lands i d j × H j s
  Goes H i s o (forks d) = (j : ℕ) × Lands i d j × H j s × H (suc i) s
  Goes H i s o ends = M.End s
  Goes H i s o stuck = ⊥

  -- So does each word, from index i on.
  abbrev pub Sounds : Place → ℕ → List Noted → Type 0
  Sounds H i [] = Unit {0}
  Sounds H i (p ∷ m) = ((s : M.State) → M.Means p.0 s → Goes H i s p.1 (flow p.1)) × Sounds H (suc i) m

  -- The word o at index j in state t leads to index k in state u.
  abbrev pub Leads : ℕ → M.State → Open → Flow → ℕ → M.State → Type 0
  Leads j t o on k u = M.Step o t u × (k ≡ suc j)
  Leads j t o (jumps d) k u = Lands j d k × (u ≡ t)
  Leads j t o (forks d) k u = (Lands j d k ⊎ (k ≡ suc j)) × (u ≡ t)
  Leads j t o ends k u = ⊥
  Leads j t o stuck k u = ⊥

  -- A run through the words, in at index i in state s, the ways of forks chosen freely.
  pub data Run (ws : List Open) (i : ℕ) (s : M.State) : ℕ → M.State → Type 0 where
    enter : Run ws i s i s
    onward : {j : ℕ} {t : M.State} → Run ws i s j t → (o : Open) → At ws j o → (k : ℕ) (u : M.State) → Leads j t o (flow o) k u → Run ws i s k u

  -- One run after another.
  pub after : (ws : List Open) (i l : ℕ) (s v : M.State) (m : ℕ) (w : M.State) → Run ws i s l v → Run ws l v m w → Run ws i s m w
  after ws i l s v m w p enter = p
  after ws i l s v m w p (onward {j} {t} q o a k u g) = onward (after ws i l s v j t p q) o a k u g

  -- A run ends: at an end.
  abbrev pub Ended : List Open → ℕ → M.State → Type 0
  Ended ws j t = (o : Open) × At ws j o × (flow o ≡ ends) × M.End t

  -- Some run, in at index i in state s, comes to index k as the notes es say, or ends before.
  abbrev pub Leaves : List Open → ℕ → M.State → ℕ → List M.Note → Type 0
  Leaves ws i s k es = (j : ℕ) × (t : M.State) × Run ws i s j t × (((j ≡ k) × Holds es 0 t) ⊎ Ended ws j t)

  -- Led to index j, it leaves as it does from there.
  pub leaves_after : (ws : List Open) (i j k : ℕ) (s t : M.State) (es : List M.Note) → Run ws i s j t → Leaves ws j t k es → Leaves ws i s k es
  leaves_after ws i j k s t es r (l, u, q, e) = (l, u, after ws i j s t l u r q, e)

  -- What leaves to index j as b says, and from there on, leaves all.
  pub leaves_on : (ws : List Open) (i j k : ℕ) (s : M.State) (b : M.Note) (es : List M.Note)
      → Leaves ws i s j (b ∷ []) → ((t : M.State) → M.Means b t → Leaves ws j t k es) → Leaves ws i s k es
  leaves_on ws i j k s b es (l, t, r, inl (e, m)) f = leaves_after ws i j k s t es (subst (λ (n : ℕ). Run ws i s n t) e r) (f t m)
  leaves_on ws i j k s b es (l, t, r, inr e) f = (l, t, r, inr e)

  -- The words ws, entered with a; es holds the note after the last, or nothing where nothing goes on there.
  pub record Piece (ws : List Open) (a : M.Note) (es : List M.Note) : Type 0 where
    pub notes : List Noted
    pub words : map (λ (p : Noted). p.1) notes ≡ ws
    pub begins : (s : M.State) → M.Means a s → Holds (tops notes es) 0 s
    pub sound : Sounds (Holds (tops notes es)) 0 notes
    -- wherever the words stand, some run leaves them
    pub leaves : (whole : List Open) (d : ℕ) → Stands whole d ws → (s : M.State) → M.Means a s → Leaves whole d s (d + length ws) es

  -- A note for each word.
  pub noted : {ws : List Open} {a : M.Note} {es : List M.Note} (p : Piece ws a es) → length p.notes ≡ length ws
  noted p = sym (length-map p.notes _) ∙ ap length p.words

  -- What follows a piece stands in for its open end.
  pub glue : (m : List Noted) (b : M.Note) (ys : List M.Note) → ((s : M.State) → M.Means b s → Holds ys 0 s)
      → (i : ℕ) (s : M.State) → Holds (tops m (b ∷ [])) i s → Holds (tops m ys) i s
  glue [] b ys y zero s a = y s a
  glue [] b ys y (suc i) s a = absurd a
  glue (p ∷ m) b ys y zero s a = a
  glue (p ∷ m) b ys y (suc i) s a = glue m b ys y i s a

  -- What holds behind a piece.
  pub beyond : (m : List Noted) (ys : List M.Note) (i : ℕ) (s : M.State) (k : ℕ) → Holds ys i s → k ≡ length m + i → Holds (tops m ys) k s
  beyond [] ys i s k a e = subst (λ (j : ℕ). Holds ys j s) (omega arith) a
  beyond (p ∷ m) ys i s zero a e = absurd (omega arith)
  beyond (p ∷ m) ys i s (suc k) a e = beyond m ys i s k a (omega arith)

  pub move : (H : Place) (i k : ℕ) (s : M.State) → H i s → k ≡ i → H k s
  move H i k s h e = subst (λ (j : ℕ). H j s) (sym e) h

  module _ (H H' : Place) (d : ℕ) (up : (j k : ℕ) (s : M.State) → H j s → k ≡ d + j → H' k s) where
    -- A piece is right wherever it comes to stand.
    pub goes_up : (i k : ℕ) (s : M.State) (o : Open) (f : Flow) → k ≡ d + i → Goes H i s o f → Goes H' k s o f
    goes_up i k s o on e r = (r.0, λ t q. up (suc i) (suc k) t (r.1 t q) (omega arith))
    goes_up i k s o (jumps n) e r = (d + r.0, lands_up i r.0 n d k e r.1, up r.0 (d + r.0) s r.2 refl)
    goes_up i k s o (forks n) e r = (d + r.0, lands_up i r.0 n d k e r.1, up r.0 (d + r.0) s r.2 refl, up (suc i) (suc k) s r.3 (omega arith))
    goes_up i k s o ends e r = r
    goes_up i k s o stuck e r = r

    pub sounds_up : (i k : ℕ) (m : List Noted) → k ≡ d + i → Sounds H i m → Sounds H' k m
    sounds_up i k [] e r = tt
    sounds_up i k (p ∷ m) e r = (λ s q. goes_up i k s p.1 (flow p.1) e (r.0 s q), sounds_up (suc i) (suc k) m (omega arith) r.1)

  -- Two pieces in a row.
  pub sounds_append : (H : Place) (i k : ℕ) (m n : List Noted) → Sounds H i m → k ≡ length m + i → Sounds H k n → Sounds H i (m ++ n)
  sounds_append H i k [] n r e t = subst (λ (j : ℕ). Sounds H j n) (omega arith) t
  sounds_append H i k (p ∷ m) n r e t = (r.0, sounds_append H (suc i) k m n r.1 (omega arith) t)

  -- One piece behind another.
  pub cat : {v w : List Open} {a b : M.Note} {es : List M.Note} → Piece v a (b ∷ []) → Piece w b es → Piece (v ++ w) a es
  cat {v} {w} {a} {b} {es} p q =
      record {
        notes = m ++ n;
        words = map-append _ m n ∙ ap₂ ◌++◌ p.words q.words;
        begins = λ s h. subst (λ (l : List M.Note). Holds l 0 s) (sym same) (glue m b (tops n es) q.begins 0 s (p.begins s h));
        sound = subst (λ (l : List M.Note). Sounds (Holds l) 0 (m ++ n)) (sym same) (sounds_append H 0 (length m) m n first (omega arith) second);
        leaves = λ whole d at s h. leaves_on whole d (d + length v) (d + length (v ++ w)) s b es
            (p.leaves whole d (stands_left whole d v w at) s h)
            (λ t k. subst (λ (z : ℕ). Leaves whole (d + length v) t z es) (omega (arith, length-append v w))
            (q.leaves whole (d + length v) (stands_right whole d (d + length v) v w refl at) t k));
      }
    where
      m : List Noted
      m = p.notes

      n : List Noted
      n = q.notes

      same : tops (m ++ n) es ≡ tops m (tops n es)
      same = tops_append m n es

      H : Place
      H = Holds (tops m (tops n es))

      first : Sounds H 0 m
      first = sounds_up (Holds (tops m (b ∷ []))) H 0 (λ j k y h e. move H j k y (glue m b (tops n es) q.begins j y h) (omega arith)) 0 0 m (omega arith) p.sound

      second : Sounds H (length m) n
      second = sounds_up (Holds (tops n es)) H (length m) (λ j k y h e. beyond m (tops n es) j y k h e) 0 (length m) n (omega arith) q.sound

  -- Nothing: what is known may be forgotten.
  pub empty : (a b : M.Note) → ((s : M.State) → M.Means a s → M.Means b s) → Piece [] a (b ∷ [])
  empty a b f = record { notes = []; words = refl; begins = f; sound = tt; leaves = λ whole d at s h. (d, s, enter, inl (omega arith, f s h)) }

  -- One word in front, that goes on to the next.
  pub cons : (w : Open) (a b : M.Note) {ws : List Open} {es : List M.Note} → flow w ≡ on
      → ((s : M.State) → M.Means a s → M.Can w s × ((t : M.State) → M.Step w s t → M.Means b t)) → Piece ws b es → Piece (w ∷ ws) a es
  cons w a b e r p =
      cat (record {
        notes = (a, w) ∷ [];
        words = refl;
        begins = λ s h. h;
        sound = (λ s h. subst (Goes (Holds (a ∷ b ∷ [])) 0 s w) (sym e) (r s h), tt);
        leaves = λ whole d at s h. let (t, q) = M.lives w s (r s h).0 in
            (suc d, t, onward enter w (subst (λ (n : ℕ). At whole n w) (omega arith) (at 0 w refl)) (suc d) t (subst (λ (f : Flow). Leads d s w f (suc d) t) (sym e) (q, refl)), inl (omega arith, (r s h).1 t q));
      }) p

  -- The last word, behind which no path from here goes on; what may stand there is reached in other ways.
  pub final : (w : Open) (a : M.Note) (es : List M.Note) → flow w ≡ ends → ((s : M.State) → M.Means a s → M.End s) → Piece (w ∷ []) a es
  final w a es e f = record {
    notes = (a, w) ∷ [];
    words = refl;
    begins = λ s h. h;
    sound = (λ s h. subst (Goes (Holds (a ∷ es)) 0 s w) (sym e) (f s h), tt);
    leaves = λ whole d at s h. (d, s, enter, inr (w, subst (λ (n : ℕ). At whole n w) (omega arith) (at 0 w refl), e, f s h));
  }
