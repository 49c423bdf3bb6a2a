-- A function whose words are a piece, wherever they stand, obeys the law once its calls are patched, and some path through it comes
-- to a Ret.
-- Assumes nothing.
use Rattle.std.proofs.Math.Path.{◌≡◌, refl, subst}
use Rattle.std.proofs.Common.{sym, ◌∙◌, inl, inr}
use Rattle.std.specs.Prelude.{Bool, Option, Some}
use mathlib.Core.List.{List, [], ◌∷◌, map}
use Prim.Native.Nat.{ℕ, zero, suc, ◌+◌, ◌≤◌, ◌<◌}
use native.Mathlib.Omega.{arith}
use Rattle.std.proofs.Math.ListN.{length}
use Rattle.rules.specs.Bytes.{Name}
use Rattle.rules.specs.Tables.{last}
use Rattle.rules.specs.Tree.{Function}
use Rattle.rules.specs.Machine.{Kind, Imm, Word, Entry, At, kind, Lands, Starts, Way, Moves, Path, start, step}
use Rattle.rules.specs.Emit.{Open, word, calls}
use Rattle.rules.specs.Link.{distance, patch, link}
use Rattle.heights.specs.Positions.{Stands}
use Rattle.heights.specs.Certificate.{Right, Certified}
use Rattle.heights.proofs.Certificate.{only_ret}
use Rattle.heights.specs.Law.{Stopped, Home}
use Rattle.heights.specs.Segment.{Reading, Flow, flow, flow_of, Place, Noted, tops, Holds, Goes, Sounds, Leads, Run, enter, onward, Leaves, Piece, noted, goes_up}
use Rattle.heights.specs.Level.{height, CanHeight, StepHeight}
use Rattle.heights.specs.Checks.{Takes}
use Rattle.heights.specs.Placed.{at_link, lands_less, last_at, entry_name, Mirrors, by_table}

-- An end is a word that ends.
ends_only : (k : Kind) (d : Imm) → flow_of k d ≡ Flow.ends → k ≡ Kind.ends
ends_only Kind.plain d e = cc
ends_only Kind.pushes d e = cc
ends_only Kind.pops d e = cc
ends_only Kind.jumps d e = cc
ends_only Kind.forks d e = cc
ends_only Kind.calls d e = cc
ends_only Kind.ends d e = refl
ends_only Kind.stuck d e = cc

module _ (M : Reading) where
  -- What a piece's soundness says at one of its words.
  pub sound_at : (H : Place M) (es : List M.Note) (i k : ℕ) (m : List (Noted M)) → Sounds M H i m → (j : ℕ) (s : M.State) → j < length m → Holds M (tops M m es) j s → k ≡ i + j
      → (o : Open) × At (map (λ (p : Noted M). p.1) m) j o × Goes M H k s o (flow o)
  sound_at H es i k [] r j s l a e = absurd (omega arith)
  sound_at H es i k (p ∷ m) r zero s l a e = (p.1, refl, subst (λ (n : ℕ). Goes M H n s p.1 (flow p.1)) (omega arith) (r.0 s a))
  sound_at H es i k (p ∷ m) r (suc j) s l a e = sound_at H es (suc i) k m r.1 j s (omega arith) a (omega arith)

  -- Where nothing goes on behind a piece, its notes end with its words.
  pub short : (m : List (Noted M)) (j : ℕ) (s : M.State) → Holds M (tops M m []) j s → j < length m
  short [] j s a = absurd a
  short (p ∷ m) zero s a = omega arith
  short (p ∷ m) (suc j) s a = omega (arith, short m j s a)

-- The notes of heights say one height at each index.
single_note : (t : Name → ℕ → Type 0) (l : List ℕ) (i x y : ℕ) → Holds (height t) l i x → Holds (height t) l i y → x ≡ y
single_note t [] i x y p q = absurd p
single_note t (a ∷ l) zero x y p q = sym p ∙ q
single_note t (a ∷ l) (suc i) x y p q = single_note t l i x y p q

module _ (fs : List Function) (T : List Entry) (mirrors : Mirrors fs T) where
  -- A word that goes right as a height is right by the table, once patched.
  right_word : (t : Name → ℕ → Type 0) (H : ℕ → ℕ → Type 0) (i x p : ℕ) (b : Bool) (w : Word) (k : Kind) → kind w.op ≡ k
      → Goes (height t) H i x (word p b w) (flow_of k w.imm) → Right T H i x w.imm k
  right_word t H i x p b w Kind.plain e r = r.1 x (subst (λ (k : Kind). StepHeight k x x) (sym e) refl)
  right_word t H i x p b w Kind.pushes e r = r.1 (suc x) (subst (λ (k : Kind). StepHeight k x (suc x)) (sym e) refl)
  right_word t H i x p b w Kind.pops e r =
      let (y, q) = subst (λ (k : Kind). CanHeight k x) e r.0 in (y, q, r.1 y (subst (λ (k : Kind). StepHeight k x y) (sym e) q))
  right_word t H i x p b w Kind.jumps e r = r
  right_word t H i x p b w Kind.forks e r = r
  right_word t H i x p b w Kind.calls e r = absurd r
  right_word t H i x p b w Kind.ends e r = r
  right_word t H i x p b w Kind.stuck e r = absurd r

  -- A call lands on the first word of a function that takes what was passed.
  called : (i n : ℕ) (f : Name) → Takes fs f n → (e : ℕ) × Lands i (distance (last entry_name f T) i) e × Starts T e n
  unfolding distance
  called i n f t = to_entry (by_table fs T mirrors f n t)
    where
      to_entry : (g : Entry) × (last entry_name f T ≡ Some g) × (g.params ≡ n) → (e : ℕ) × Lands i (distance (last entry_name f T) i) e × Starts T e n
      to_entry (g, u, v) = (
        g.first,
        subst (λ (o : Option Entry). Lands i (distance o i) g.first) (sym u) (lands_less i g.first),
        ((last_at entry_name f T g u).0, g, (last_at entry_name f T g u).1, refl, v),
      )

  -- A word that goes right is right once patched.
  patched : (H : ℕ → ℕ → Type 0) (i x : ℕ) (o : Open) → Goes (height (Takes fs)) H i x o (flow o) → Right T H i x (patch T i o).imm (kind (patch T i o).op)
  unfolding patch
  patched H i x (word p b w) r = right_word (Takes fs) H i x p b w (kind w.op) refl r
  patched H i x (calls p f) r =
      let (n, y, t, q) = r.0 in
      let (e, l, s) = called i n f t in
      (e, n, y, l, s, q, r.1 (suc y) (n, y, t, q, refl))

  -- A run's step is a path's.
  Stepped : ℕ → ℕ → ℕ → ℕ → Imm → Kind → Type 0
  Stepped i x j z d k = (y : Way) × (t : ℕ) × (g : ℕ) × (rest : ℕ) × Moves T i d y k t g j × (t + rest ≡ x) × (z ≡ rest + g)

  -- Of a word.
  stepped_word : (t : Name → ℕ → Type 0) (i x j z p : ℕ) (b : Bool) (w : Word) (k : Kind) → kind w.op ≡ k
      → Leads (height t) i x (word p b w) (flow_of k w.imm) j z → Stepped i x j z w.imm k
  unfolding Stepped
  stepped_word t i x j z p b w Kind.plain e (s, q) = let h : z ≡ x = subst (λ (k : Kind). StepHeight k x z) e s in (Way.pass, 0, 0, x, (refl, refl, q), omega arith, omega arith)
  stepped_word t i x j z p b w Kind.pushes e (s, q) = let h : z ≡ suc x = subst (λ (k : Kind). StepHeight k x z) e s in (Way.pass, 0, 1, x, (refl, refl, q), omega arith, omega arith)
  stepped_word t i x j z p b w Kind.pops e (s, q) = let h : suc z ≡ x = subst (λ (k : Kind). StepHeight k x z) e s in (Way.pass, 1, 0, z, (refl, refl, q), omega arith, omega arith)
  stepped_word t i x j z p b w Kind.jumps e (l, h) = (Way.pass, 0, 0, x, (refl, refl, l), omega arith, omega arith)
  stepped_word t i x j z p b w Kind.forks e (inl l, h) = (Way.jump, 0, 0, x, (refl, refl, l), omega arith, omega arith)
  stepped_word t i x j z p b w Kind.forks e (inr q, h) = (Way.pass, 0, 0, x, (refl, refl, q), omega arith, omega arith)
  stepped_word t i x j z p b w Kind.calls e s = absurd s
  stepped_word t i x j z p b w Kind.ends e s = absurd s
  stepped_word t i x j z p b w Kind.stuck e s = absurd s

  -- Of a call too.
  stepped : (i x j z : ℕ) (o : Open) → Leads (height (Takes fs)) i x o (flow o) j z → Stepped i x j z (patch T i o).imm (kind (patch T i o).op)
  unfolding patch Stepped
  stepped i x j z (word p b w) l = stepped_word (Takes fs) i x j z p b w (kind w.op) refl l
  stepped i x j z (calls p f) ((n, y, t, q, h), s) = let (e, l, u) = called i n f t in (Way.pass, n, 1, y, (e, l, u, refl, s), q, omega arith)

  -- A function that stands in the whole obeys the law.
  module _ (whole : List Open) (e : Entry) (c : List Open) (piece : Piece (height (Takes fs)) c (suc e.params) []) (past : e.past ≡ e.first + length c)
      (up : Stands whole e.first c) where
    abbrev M : Reading
    M = height (Takes fs)

    -- The map: the piece's heights, from the first word on.
    pub Map : ℕ → ℕ → Type 0
    Map i x = (j : ℕ) × (i ≡ e.first + j) × Holds M (tops M piece.notes []) j x

    -- Each word that the map has is right.
    right_at : (j x : ℕ) → Holds M (tops M piece.notes []) j x → (w : Word) × At (link T 0 whole) (e.first + j) w × Right T Map (e.first + j) x w.imm (kind w.op)
    unfolding Map
    right_at j x a = judge (sound_at M (Holds M (tops M piece.notes [])) [] 0 j piece.notes piece.sound j x (short M piece.notes j x a) a (omega arith))
      where
        judge : (o : Open) × At (map (λ (p : Noted M). p.1) piece.notes) j o × Goes M (Holds M (tops M piece.notes [])) j x o (flow o)
            → (w : Word) × At (link T 0 whole) (e.first + j) w × Right T Map (e.first + j) x w.imm (kind w.op)
        judge (o, p, s) = (
          patch T (e.first + j) o,
          at_link T 0 whole (e.first + j) (e.first + j) o (omega arith) (up j o (subst (λ (l : List Open). At l j o) piece.words p)),
          patched Map (e.first + j) x o (goes_up M (Holds M (tops M piece.notes [])) Map e.first (λ i k y h q. (i, q, h)) j (e.first + j) x o (flow o) refl s),
        )

    -- The map is a certificate.
    pub certified : Certified (link T 0 whole) T e Map
    unfolding Map
    certified = record {
      inside = λ i x h. inside i x h;
      single = λ i x y h g. single_note (Takes fs) (tops M piece.notes []) h.0 x y h.2 (subst (λ (j : ℕ). Holds M (tops M piece.notes []) j y) (same i x y h g) g.2);
      begins = (0, omega arith, piece.begins (suc e.params) refl);
      right = λ i x h. subst (λ (n : ℕ). (w : Word) × At (link T 0 whole) n w × Right T Map n x w.imm (kind w.op)) (sym h.1) (right_at h.0 x h.2);
    }
      where
        inside : (i x : ℕ) → Map i x → (e.first ≤ i) × (i < e.past)
        inside i x h = let l : h.0 < length piece.notes = short M piece.notes h.0 x h.2 in omega (arith, noted M piece, h.1)

        same : (i x y : ℕ) (h : Map i x) (g : Map i y) → g.0 ≡ h.0
        same i x y h g = omega (arith, h.1, g.1)

    -- A run over the open words is a path over the patched ones.
    walked : {j x : ℕ} → Run M whole e.first (suc e.params) j x → Path (link T 0 whole) T e j x
    unfolding Stepped
    walked enter = start
    walked (onward {j} {t} q o a k u l) =
        let (y, n, g, rest, m, r, h) = stepped j t k u o l in
        subst (Path (link T 0 whole) T e k) (sym h) (step (walked q) (patch T j o) (at_link T 0 whole j j o (omega arith) a) y n g k m rest r)

    -- Some path comes to a Ret, at height two.
    pub comes_home : Home (link T 0 whole) T e
    unfolding Home Stopped patch
    comes_home = ended (piece.leaves whole e.first up (suc e.params) refl)
      where
        at_end : (j : ℕ) (o : Open) → flow o ≡ Flow.ends → At whole j o → Path (link T 0 whole) T e j 2 → Home (link T 0 whole) T e
        at_end j (word p b w) q a r = (j, (w, at_link T 0 whole j j (word p b w) (omega arith) a, only_ret w.op (ends_only (kind w.op) w.imm q), refl), r)
        at_end j (calls p f) q a r = absurd (let z : ◌≡◌ {A = ℕ} 0 1 = cc in omega arith)

        ended : Leaves M whole e.first (suc e.params) (e.first + length c) [] → Home (link T 0 whole) T e
        ended (j, t, r, inl (q, h)) = absurd h
        ended (j, t, r, inr (o, a, f, h)) = at_end j o f a (subst (Path (link T 0 whole) T e j) h (walked r))
