-- The word with number `want` among the words of steps. f says what is asked of a word; what steps do with their words does not depend on it.
--     Found             it is a of that word, if that is one of those that m adds from the tally s on, and the last stands before `end`
--     found_first       it lies in the first step
--     found_later       it lies behind the first step
--     found_asked       a question adds no word
--     Own, found_own    it is a of every word
--     Long              so many words; found_front, found_back: in the steps before them, in these
-- Assumes nothing.
use Rattle.std.specs.Prelude.{◌≡◌, refl, Bool, List, [], ◌∷◌, ◌++◌, map, ℕ, zero, suc, ◌+◌, ◌-◌, ◌≤◌, ◌<◌, length, None, Option, Some}
use Rattle.std.proofs.Common.{sym, ap, ◌∙◌, le_of_suc-le-suc, not-suc-le-zero, suc-add, zero-add, arith}
use Rattle.std.proofs.Math.Path.{subst}
use Rattle.std.proofs.Math.Bool.{true, false}
use Rattle.rules.specs.Bytes.{pick}
use Rattle.rules.specs.Tables.{nth}
use Rattle.rules.specs.Refusal.{Res, ok, bad}
use Rattle.rules.specs.Emit.{Open}
use Rattle.emit.specs.Steps.{Out, ◌>>=◌, done, say, ask}
use Rattle.emit.specs.Laws.{after_none}
use Rattle.emit.specs.Ran.{Tally}
use Rattle.seek.specs.Goes.{Goes, IsOk, words_of, split}

pub nth_first : {A : Type 0} (xs ys : List A) (i : ℕ) → i < length xs → nth i (xs ++ ys) ≡ nth i xs
unfolding nth
nth_first [] ys i h = absurd (not-suc-le-zero h)
nth_first (x ∷ xs) ys zero h = refl
nth_first (x ∷ xs) ys (suc i) h = nth_first xs ys i (le_of_suc-le-suc h)

pub nth_later : {A : Type 0} (xs ys : List A) (i : ℕ) → nth (length xs + i) (xs ++ ys) ≡ nth i ys
unfolding nth
nth_later [] ys i = ap (λ (k : ℕ). nth k ys) (zero-add i)
nth_later (x ∷ xs) ys i = ap (λ (k : ℕ). nth k (x ∷ (xs ++ ys))) (suc-add (length xs) i) ∙ nth_later xs ys i

abbrev IsSome : {A : Type 0} → Option A → Type 0
IsSome None = ⊥
IsSome (Some a) = Unit {0}

pub nth_low : {A : Type 0} (xs : List A) (i : ℕ) (x : A) → nth i xs ≡ Some x → i < length xs
unfolding nth
nth_low [] i x e = absurd (subst IsSome (sym e) tt)
nth_low (y ∷ xs) zero x e = omega arith
nth_low (y ∷ xs) (suc i) x e = omega (arith, nth_low xs i x e)

abbrev value_of : {A : Type 0} → A → Option A → A
value_of a None = a
value_of a (Some b) = b

pub some_same : {A : Type 0} {x y : A} → Some x ≡ Some y → x ≡ y
some_same {A} {x} e = ap (value_of x) e

pub record Found {A S : Type 0} (f : Open → S) (m : Res (Out A)) (s : Tally) (end want : ℕ) (a : S) : Type 0 where
  pub is : s.err ≡ 0 → (o : Out A) → m ≡ ok o → end ≡ s.n + length o.words → end < 4294967295 → s.n ≤ want → (w : Open) → nth (want - s.n) o.words ≡ Some w → a ≡ f w

module _ {A B S : Type 0} (f : Open → S) {s r : Tally} {v : A} {m : Res (Out A)} {end want : ℕ} {a : S} (k : A → Res (Out B)) (g : Goes s r v m) where
  pub found_first : want < r.n → Found f m s r.n want a → Found f (m >>= k) s end want a
  found_first l h = record {
    is = λ fine o e z low le w q.
        let p = split m k o e in
        let y = p.long in
        let b = g.on fine p.one p.first (omega (arith, low, z, y)) in
        h.is fine p.one p.first b.2 (omega (arith, b.2, low, z, y)) le w
        (sym (nth_first p.one.words p.two.words (want - s.n) (omega (arith, b.2, l, le))) ∙ ap (λ (ws : List Open). nth (want - s.n) ws) (sym p.words) ∙ q);
  }

  pub found_later : r.n ≤ want → Found f (k v) r end want a → Found f (m >>= k) s end want a
  found_later l h = record {
    is = λ fine o e z low le w q.
        let p = split m k o e in
        let y = p.long in
        let b = g.on fine p.one p.first (omega (arith, low, z, y)) in
        let d : length p.one.words + (want - r.n) ≡ want - s.n = omega (arith, b.2, l) in
        h.is b.0 p.two (ap k b.1 ∙ p.second) (omega (arith, z, y, b.2)) low l w
        (sym (nth_later p.one.words p.two.words (want - r.n)) ∙ ap (λ (i : ℕ). nth i (p.one.words ++ p.two.words)) d
        ∙ ap (λ (ws : List Open). nth (want - s.n) ws) (sym p.words) ∙ q);
  }

pub found_bad : {A S : Type 0} {f : Open → S} {m : Res (Out A)} {s : Tally} {end want : ℕ} {a : S} → ((o : Out A) → m ≡ ok o → ⊥) → Found f m s end want a
found_bad h = record { is = λ fine o e z low le w q. absurd (h o e) }

-- no words
pub found_none : {A S : Type 0} {f : Open → S} {s : Tally} {end want : ℕ} {a : S} (v : A) → Found f (done v) s end want a
unfolding done nth
found_none {A} {S} {f} {s} {end} {want} v = record { is = λ fine o e z low le w q. absurd (subst IsSome (sym (ap (nth (want - s.n)) (ap words_of e) ∙ q)) tt) }

pub found_asked : {A B S : Type 0} {f : Open → S} {s : Tally} {end want : ℕ} {a : S} (m : Res A) {k : A → Res (Out B)} → ((v : A) → Found f (k v) s end want a) → Found f (ask m >>= k) s end want a
unfolding ask done ◌>>=◌
found_asked {A} {B} {S} {f} {s} {end} {want} {a} (ok v) {k} h = subst (λ (n : Res (Out B)). Found f n s end want a) (sym (after_none (k v))) (h v)
found_asked (bad q) h = found_bad (λ o e. subst IsOk (sym e) tt)

-- Each of a list.
pub data Each {S : Type 0} (f : Open → S) (a : S) : List Open → Type 0 where
  each_none : Each f a []
  each_more : (o : Open) (ws : List Open) → a ≡ f o → Each f a ws → Each f a (o ∷ ws)

pub each_append : {S : Type 0} {f : Open → S} {a : S} (xs ys : List Open) → Each f a xs → Each f a ys → Each f a (xs ++ ys)
each_append [] ys h g = g
each_append (x ∷ xs) ys (each_more _ _ e h) g = each_more x (xs ++ ys) e (each_append xs ys h g)

pub each_at : {S : Type 0} {f : Open → S} {a : S} (ws : List Open) (i : ℕ) (w : Open) → Each f a ws → nth i ws ≡ Some w → a ≡ f w
unfolding nth
each_at [] i w h e = absurd (subst IsSome (sym e) tt)
each_at {S} {f} (x ∷ ws) zero w (each_more _ _ z h) e = z ∙ ap f (some_same e)
each_at (x ∷ ws) (suc i) w (each_more _ _ z h) e = each_at ws i w h e

pub each_map : {A S : Type 0} {f : Open → S} {a : S} (g : A → Open) (l : List A) → ((x : A) → a ≡ f (g x)) → Each f a (map g l)
each_map g [] h = each_none
each_map g (x ∷ l) h = each_more (g x) (map g l) (h x) (each_map g l h)

-- The words of steps that went well.
pub record Own {A S : Type 0} (f : Open → S) (a : S) (m : Res (Out A)) : Type 0 where
  pub each : (o : Out A) → m ≡ ok o → Each f a o.words

pub found_own : {A S : Type 0} {f : Open → S} {m : Res (Out A)} {s : Tally} {end want : ℕ} {a : S} → Own f a m → Found f m s end want a
found_own {A} {S} {f} {m} {s} {end} {want} h = record { is = λ fine o e z low le w q. each_at o.words (want - s.n) w (h.each o e) q }

module _ {S : Type 0} {f : Open → S} {a : S} where
  pub own_say : {ws : List Open} → Each f a ws → Own f a (say ws)
  unfolding say
  own_say {ws} h = record { each = λ o e. subst (Each f a) (ap words_of e) h }

  pub own_done : {A : Type 0} (v : A) → Own f a (done v)
  unfolding done
  own_done v = record { each = λ o e. subst (Each f a) (ap words_of e) each_none }

  pub own_then : {A B : Type 0} {m : Res (Out A)} {k : A → Res (Out B)} → Own f a m → ((v : A) → Own f a (k v)) → Own f a (m >>= k)
  own_then {A} {B} {m} {k} h g = record {
    each = λ o e. let s = split m k o e in
        subst (Each f a) (sym s.words) (each_append s.one.words s.two.words (h.each s.one s.first) ((g s.one.val).each s.two s.second));
  }

  pub own_asks : {A B : Type 0} (m : Res A) {k : A → Res (Out B)} → ((v : A) → Own f a (k v)) → Own f a (ask m >>= k)
  unfolding ask ◌>>=◌
  own_asks (ok v) g = own_then (own_done v) g
  own_asks (bad q) g = record { each = λ o e. absurd (subst IsOk (sym e) tt) }

  pub own_says : {B : Type 0} {ws : List Open} {k : Unit {0} → Res (Out B)} → Each f a ws → ((u : Unit {0}) → Own f a (k u)) → Own f a (say ws >>= k)
  own_says h g = own_then (own_say h) g

  pub own_pick : {A : Type 0} (b : Bool) {x y : Res (Out A)} → Own f a x → Own f a y → Own f a (pick b x y)
  unfolding pick
  own_pick true h g = h
  own_pick false h g = g

-- Steps that add j words, where they go well.
pub record Long {A : Type 0} (j : ℕ) (m : Res (Out A)) : Type 0 where
  pub is : (o : Out A) → m ≡ ok o → length o.words ≡ j

pub long_done : {A : Type 0} (v : A) → Long 0 (done v)
unfolding done
long_done v = record { is = λ o e. sym (ap (λ (m : Res (Out _)). length (words_of m)) e) }

pub long_says : {B : Type 0} {j : ℕ} (ws : List Open) {k : Unit {0} → Res (Out B)} → ((u : Unit {0}) → Long j (k u)) → Long (length ws + j) (say ws >>= k)
unfolding say
long_says ws {k} h = record {
  is = λ o e.
      let p = split (say ws) k o e in
      let i = ap (λ (m : Res (Out (Unit {0}))). length (words_of m)) p.first in
      omega (arith, p.long, i, (h p.one.val).is p.two p.second);
}

pub long_asks : {A B : Type 0} {j : ℕ} (m : Res A) {k : A → Res (Out B)} → ((v : A) → Long j (k v)) → Long j (ask m >>= k)
unfolding ask done ◌>>=◌
long_asks {A} {B} {j} (ok v) {k} h = subst (λ (n : Res (Out B)). Long j n) (sym (after_none (k v))) (h v)
long_asks (bad q) h = record { is = λ o e. absurd (subst IsOk (sym e) tt) }

module _ {A B S : Type 0} (f : Open → S) {s : Tally} (m : Res (Out A)) {end want : ℕ} {a : S} (k : A → Res (Out B)) (j : ℕ) (t : (v : A) → Long j (k v)) where
  pub found_front : want + j < end → Found f m s (end - j) want a → Found f (m >>= k) s end want a
  found_front l h = record {
    is = λ fine o e z low le w q.
        let p = split m k o e in
        let y = p.long in
        let b = (t p.one.val).is p.two p.second in
        h.is fine p.one p.first (omega (arith, z, y, b)) (omega (arith, low)) le w
        (sym (nth_first p.one.words p.two.words (want - s.n) (omega (arith, z, y, b, l, le))) ∙ ap (λ (ws : List Open). nth (want - s.n) ws) (sym p.words) ∙ q);
  }

  -- a is asked of them wherever they start
  pub found_back : end ≤ want + j → ((v : A) → Own f a (k v)) → Found f (m >>= k) s end want a
  found_back l h = record {
    is = λ fine o e z low le w q.
        let p = split m k o e in
        let y = p.long in
        let b = (t p.one.val).is p.two p.second in
        let d : length p.one.words + (want - s.n - length p.one.words) ≡ want - s.n = omega (arith, z, y, b, l, le) in
        each_at p.two.words (want - s.n - length p.one.words) w ((h p.one.val).each p.two p.second)
        (sym (nth_later p.one.words p.two.words (want - s.n - length p.one.words)) ∙ ap (λ (i : ℕ). nth i (p.one.words ++ p.two.words)) d
        ∙ ap (λ (ws : List Open). nth (want - s.n) ws) (sym p.words) ∙ q);
  }
