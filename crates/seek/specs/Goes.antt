-- How far steps go, which is all that a walk asks of the code that counts a part's words: what it leaves in the slices does not matter.
--     Goes              from the tally s to r, with the value v, where m goes well
--     ran_goes          as code that refines m does
--     goes_done         no step
--     goes_then         one step, then another
--     goes_word, goes_words      slots that are kept: of one word, of several
--     goes_behind       a block behind the word that jumps over it
-- Assumes nothing.
use Rattle.std.specs.Prelude.{◌≡◌, refl, List, [], ◌∷◌, ◌++◌, ℕ, ◌+◌, ◌<◌, length}
use Rattle.std.proofs.Common.{sym, ap, ◌∙◌, subst, arith, length-append}
use Rattle.rules.specs.Refusal.{Res, ok, bad}
use Rattle.rules.specs.Emit.{Open}
use Rattle.emit.specs.Steps.{Out, after, ◌>>=◌, done, say, behind}
use Rattle.emit.specs.Sinks.{Sinks}
use Rattle.emit.specs.Ran.{Tally, Reserved, Sums, Case, Ran}
use Rattle.emit.specs.Agrees.{is_good}

pub record Goes {A : Type 0} (s r : Tally) (v : A) (m : Res (Out A)) : Type 0 where
  pub on : s.err ≡ 0 → (o : Out A) → m ≡ ok o → s.n + length o.words < 4294967295 → (r.err ≡ 0) × (v ≡ o.val) × (r.n ≡ s.n + length o.words)

abbrev pub IsOk : {A : Type 0} → Res A → Type 0
IsOk (ok a) = Unit {0}
IsOk (bad q) = ⊥

abbrev pub words_of : {A : Type 0} → Res (Out A) → List Open
words_of (ok o) = o.words
words_of (bad q) = []

abbrev val_of : {A : Type 0} → A → Res (Out A) → A
val_of a (ok o) = o.val
val_of a (bad q) = a

-- Two steps that went well.
pub record Split {A B : Type 0} (m : Res (Out A)) (k : A → Res (Out B)) (o : Out B) : Type 0 where
  pub one : Out A
  pub two : Out B
  pub first : m ≡ ok one
  pub second : k one.val ≡ ok two
  pub value : two.val ≡ o.val
  pub words : o.words ≡ one.words ++ two.words
  pub long : length o.words ≡ length one.words + length two.words

pub split : {A B : Type 0} (m : Res (Out A)) (k : A → Res (Out B)) (o : Out B) → (m >>= k) ≡ ok o → Split m k o
unfolding ◌>>=◌ after
split {A} {B} (ok x) k o e = go (k x.val) refl e
  where
    go : (n : Res (Out B)) → k x.val ≡ n → after x.words n ≡ ok o → Split (ok x) k o
    go (ok y) f g =
        let w : o.words ≡ x.words ++ y.words = sym (ap words_of g) in
        record { one = x; two = y; first = refl; second = f; value = ap (val_of y.val) g; words = w; long = ap length w ∙ length-append x.words y.words }
    go (bad q) f g = absurd (subst IsOk (sym g) tt)
split (bad q) k o e = absurd (subst IsOk (sym e) tt)

pub ran_goes : {A : Type 0} (raw : Open → ℕ) {s r : Tally} {c c' : Sinks} {v : A} {m : Res (Out A)} → Ran raw s c r c' v m → Goes s r v m
ran_goes {A} raw {s} {r} {c} {c'} {v} {m} q = record {
  on = λ fine o e low.
      let g = is_good raw (subst (λ (n : Res (Out A)). Case raw s c r c' v n) e (q.run fine)) in
      (g.fine, g.seen, g.index (g.low low));
}

pub goes_then : {A B : Type 0} {s r t : Tally} {v : A} {u : B} {m : Res (Out A)} (k : A → Res (Out B)) → Goes s r v m → Goes r t u (k v) → Goes s t u (m >>= k)
goes_then {A} {B} {s} {r} {t} {v} {u} {m} k g h = record {
  on = λ fine o e low.
      let p = split m k o e in
      let l = p.long in
      let a = g.on fine p.one p.first (omega (arith, low, l)) in
      let b = h.on a.0 p.two (ap k a.1 ∙ p.second) (omega (arith, low, l, a.2)) in
      (b.0, b.1 ∙ p.value, omega (arith, b.2, a.2, l));
}

pub goes_done : {A : Type 0} {s : Tally} (v : A) → Goes s s v (done v)
unfolding done
goes_done {A} {s} v = record {
  on = λ fine o e low. let i = ap (λ (m : Res (Out A)). length (words_of m)) e in (fine, ap (val_of v) e, omega (arith, i));
}

pub goes_word : {s r : Tally} (w : Open) → Reserved s r → Goes s r tt (say (w ∷ []))
unfolding say
goes_word {s} {r} w k = record {
  on = λ fine o e low.
      let i = ap (λ (m : Res (Out (Unit {0}))). length (words_of m)) e in
      (k.err ∙ fine, refl, omega (arith, k.count (k.low (omega (arith, low, i))), i));
}

pub goes_words : {s r : Tally} {k : ℕ} (ws : List Open) → length ws ≡ k → r.err ≡ s.err → Sums s.n k r.n → Goes s r tt (say ws)
unfolding say
goes_words {s} {r} {k} ws l e a = record {
  on = λ fine o h low.
      let i = ap (λ (m : Res (Out (Unit {0}))). length (words_of m)) h in
      (e ∙ fine, refl, omega (arith, a.exact (a.low (omega (arith, low, i, l))), i, l));
}

pub goes_behind : {A : Type 0} {s j r : Tally} {v : A} {m : Res (Out A)} (f : ℕ → Open) → Reserved s j → Goes j r v m → Goes s r v (behind (λ ws. f (length ws) ∷ ws) m)
unfolding behind
goes_behind {A} {s} {j} {r} {v} {m} f k g = go m refl
  where
    go : (n : Res (Out A)) → m ≡ n → Goes s r v (behind (λ ws. f (length ws) ∷ ws) n)
    go (ok x) h = record {
      on = λ fine o e low.
          let i = ap (λ (l : Res (Out A)). length (words_of l)) e in
          let c = k.count (k.low (omega (arith, low, i))) in
          let b = g.on (k.err ∙ fine) x h (omega (arith, low, i, c)) in
          (b.0, b.1 ∙ ap (val_of v) e, omega (arith, b.2, c, i));
    }
    go (bad q) h = record { on = λ fine o e low. absurd (subst IsOk (sym e) tt) }
