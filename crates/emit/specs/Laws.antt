-- The closed answer as the steps' answer; and one law for each way to go on. `ws` are the words so far.
-- Assumes nothing.
use Rattle.std.specs.Prelude.{◌≡◌, Bool, ℕ}
use Rattle.std.proofs.Math.Path.{refl, ap}
use Rattle.std.proofs.Common.{sym, ◌∙◌}
use Rattle.std.proofs.Math.Bool.{true, false}
use mathlib.Core.List.{List, [], ◌++◌, append_assoc, append-nil}
use Rattle.rules.specs.Refusal as closed
use Rattle.rules.specs.Bytes.{pick}
use Rattle.rules.specs.Refusal.{Res, ok, bad}
use Rattle.rules.specs.Emit.{Open, AtReg, loops}
use Rattle.emit.specs.Steps.{Out, after, ◌>>=◌, done, say, ask, behind, Here, around, looping}

-- An answer as a value and its words.
unfoldable pub as_out : {X A : Type 0} → (X → Out A) → Res X → Res (Out A)
as_out t (ok v) = ok (t v)
as_out t (bad q) = bad q

pub after_none : {A : Type 0} (m : Res (Out A)) → after [] m ≡ m
unfolding after
after_none (ok o) = refl
after_none (bad z) = refl

pub after_after : {A : Type 0} (xs ys : List Open) (m : Res (Out A)) → after xs (after ys m) ≡ after (xs ++ ys) m
unfolding after
after_after xs ys (ok o) = ap (λ (l : List Open). ok (record { val = o.val; words = l })) (sym (append_assoc xs ys o.words))
after_after xs ys (bad z) = refl

module _ {B W : Type 0} (u : W → Out B) (ws : List Open) where
  -- a part that has its own answer
  pub part : {A X : Type 0} (t : X → Out A) {g : Res (Out A)} (m : Res X) (k : A → Res (Out B)) (f : X → Res W) → g ≡ as_out t m
      → ((v : X) → after (ws ++ (t v).words) (k (t v).val) ≡ as_out u (f v)) → after ws (g >>= k) ≡ as_out u (closed.◌>>=◌ m f)
  unfolding ◌>>=◌ as_out closed.◌>>=◌ after
  part t (ok v) k f e h = ap (λ x. after ws (x >>= k)) e ∙ after_after ws (t v).words (k (t v).val) ∙ h v
  part t (bad z) k f e h = ap (λ x. after ws (x >>= k)) e

  -- a question
  pub asked : {X : Type 0} (m : Res X) (k : X → Res (Out B)) (f : X → Res W) → ((v : X) → after ws (k v) ≡ as_out u (f v))
      → after ws (ask m >>= k) ≡ as_out u (closed.◌>>=◌ m f)
  unfolding ◌>>=◌ as_out closed.◌>>=◌ after ask done
  asked (ok v) k f h = ap (λ x. after ws x) (after_none (k v)) ∙ h v
  asked (bad z) k f h = refl

  -- words
  pub said : (us : List Open) (k : Unit {0} → Res (Out B)) {r : Res (Out B)} → after (ws ++ us) (k tt) ≡ r → after ws (say us >>= k) ≡ r
  unfolding ◌>>=◌ say
  said us k h = after_after ws us (k tt) ∙ h

  -- the end
  pub ends : (w : W) → ws ≡ (u w).words → after ws (done (u w).val) ≡ as_out u (ok w)
  unfolding after done as_out
  ends w e = ap (λ (l : List Open). ok (record { val = (u w).val; words = l })) (append-nil ws ∙ e)

  pub closes : (w : W) (us : List Open) → ws ++ us ≡ (u w).words → after ws (ok (record { val = (u w).val; words = us })) ≡ as_out u (ok w)
  unfolding after as_out
  closes w us e = ap (λ (l : List Open). ok (record { val = (u w).val; words = l })) e

  -- one of two
  pub either : (b : Bool) (x y : Res (Out B)) (x' y' : Res W) → after ws x ≡ as_out u x' → after ws y ≡ as_out u y' → after ws (pick b x y) ≡ as_out u (pick b x' y')
  unfolding pick
  either true x y x' y' p q = p
  either false x y x' y' p q = q

  -- a part that is the last
  pub last : {X : Type 0} (t : X → Out B) {g : Res (Out B)} (m : Res X) (f : X → Res W) → g ≡ as_out t m
      → ((v : X) → after ws (ok (t v)) ≡ as_out u (f v)) → after ws g ≡ as_out u (closed.◌>>=◌ m f)
  unfolding as_out closed.◌>>=◌ after
  last t (ok v) f e h = ap (λ x. after ws x) e ∙ h v
  last t (bad z) f e h = ap (λ x. after ws x) e

-- the words of a block changed
abbrev pub changed : {A X : Type 0} → (List Open → List Open) → (X → Out A) → X → Out A
changed f t v = record { val = (t v).val; words = f (t v).words }

pub block : {A X : Type 0} (f : List Open → List Open) (t : X → Out A) {g : Res (Out A)} (m : Res X) → g ≡ as_out t m → behind f g ≡ as_out (changed f t) m
unfolding as_out behind
block f t (ok v) e = ap (λ x. behind f x) e
block f t (bad z) e = ap (λ x. behind f x) e

-- a condition and its block
pub looped : {X W D : Type 0} (p : ℕ) (t : X → Out AtReg) (u : W → Out Here) {g : Res (Out AtReg)} (body : AtReg → Res (Out Here)) (m : Res X) (f : X → Res W)
    → g ≡ as_out t m → ((v : X) → body (t v).val ≡ as_out u (f v)) → (r : D → Out Here) (h : X → W → D)
    → ((v : X) (w : W) → r (h v w) ≡ record { val = (u w).val; words = loops p (t v).val.reg (t v).words (u w).words })
    → looping p g body ≡ as_out r (closed.◌>>=◌ m (λ v. closed.◌>>=◌ (f v) (λ w. ok (h v w))))
unfolding as_out looping around closed.◌>>=◌
looped p t u {g} body (bad z) f e l r h y = ap (λ x. looping p x body) e
looped p t u {g} body (ok v) f e l r h y = ap (λ x. looping p x body) e ∙ ap (λ x. around p (t v) x) (l v) ∙ go (f v)
  where
    go : (n : Res _) → around p (t v) (as_out u n) ≡ as_out r (closed.◌>>=◌ n (λ w. ok (h v w)))
    go (ok w) = ap ok (sym (y v w))
    go (bad z) = refl

-- a question, words, and the end
pub simple : {A X : Type 0} (m : Res X) (ws : X → List Open) (a : X → A) → (ask m >>= λ c. say (ws c) >>= λ q. done (a c)) ≡ as_out (λ c. record { val = a c; words = ws c }) m
unfolding ◌>>=◌ as_out after ask say done
simple (ok c) ws a = ap (λ (l : List Open). ok (record { val = a c; words = l })) (append-nil (ws c))
simple (bad z) ws a = refl

-- the answers of For's loop, one after the other
abbrev pub then_with : {X Y : Type 0} → Res Y → X → Res (X × Y)
then_with {X} {Y} m x = closed.◌>>=◌ {A = Y} {B = X × Y} m (λ y. ok (x, y))

pub regroup : {X Y Z W : Type 0} (a : Res X) (b : Res Y) (c : Y → Res Z) (f : X → Y → Z → Res W)
    → closed.◌>>=◌ {A = X × (Y × Z)} (closed.◌>>=◌ a (λ x. then_with (closed.◌>>=◌ b (λ y. then_with (c y) y)) x)) (λ r. f r.0 r.1.0 r.1.1)
    ≡ closed.◌>>=◌ a (λ x. closed.◌>>=◌ b (λ y. closed.◌>>=◌ (c y) (λ z. f x y z)))
unfolding closed.◌>>=◌
regroup (bad z) b c f = refl
regroup (ok x) (bad z) c f = refl
regroup (ok x) (ok y) c f = go x y (c y) f
  where
    go : {X Y Z W : Type 0} (x : X) (y : Y) (n : Res Z) (f : X → Y → Z → Res W)
        → closed.◌>>=◌ {A = X × (Y × Z)} (then_with (then_with n y) x) (λ r. f r.0 r.1.0 r.1.1) ≡ closed.◌>>=◌ n (λ z. f x y z)
    go x y (ok z) f = refl
    go x y (bad z) f = refl
