-- The loops of the walk.
--     Rest              whatever is found in the rest of a list is found in all of it; Args, Inits: args_go, args_in, args_past, args_whole, ..
--     Down              whatever is found in the part is found in the whole: down_go, down_own, down_end
-- Assumes nothing.
use Rattle.std.specs.Prelude.{◌≡◌, refl, Bool, true, false, List, ◌∷◌, ℕ, suc, ◌+◌, ◌-◌, ◌≤◌, ◌<◌}
use Rattle.std.proofs.Common.{sym, ap, ◌∙◌, subst, arith}
use Rattle.rules.specs.Bytes.{after}
use Rattle.rules.specs.Read.{exprs_from, inits_from, expr_at, second, contract_at}
use Rattle.rules.specs.Refusal.{Res, ok, bad}
use Rattle.rules.specs.Emit.{AtReg}
use Rattle.emit.specs.declared.St.{St}
use Rattle.emit.specs.declared.Rules.{Rules}
use Rattle.emit.specs.Steps.{Out, after as then, ◌>>=◌, done, Regs, gen, gens, gen_inits}
use Rattle.emit.specs.Laws.{after_none, after_after}
use Rattle.emit.specs.Ran.{Tally}
use Rattle.emit.specs.State.{rules_of, tally}
use Rattle.expr.specs.Scope.{scope_in}
use Rattle.expr.proofs.Walk.{args_full, args_end, args_more, inits_full, inits_end, inits_more}
use Rattle.seek.specs.declared.Spot.{Spot}
use Rattle.seek.specs.declared.Step.{Step}
use Rattle.seek.specs.declared.Way.TheVariants as way
use Rattle.seek.specs.Found.{Found, found_later, found_none}
use Rattle.seek.specs.Spots.{told, owned, into, spot_in_lem, steps, args, inits, value_in, Counts, Finds, owns, goes, Listed, within, past, Steps}
use Rattle.seek.specs.Parts.{into_first}

-- Steps one after the other, in either grouping.
bind_assoc : {A B D : Type 0} (m : Res (Out A)) (f : A → Res (Out B)) (g : B → Res (Out D)) → ((m >>= f) >>= g) ≡ (m >>= λ v. f v >>= g)
unfolding ◌>>=◌ then
bind_assoc {A} {B} {D} (ok o) f g = go (f o.val)
  where
    go : (n : Res (Out B)) → (then o.words n >>= g) ≡ then o.words (n >>= g)
    go (ok p) = sym (after_after o.words p.words (g p.val))
    go (bad q) = refl
bind_assoc (bad q) f g = refl

done_bind : {A B : Type 0} (v : A) (k : A → Res (Out B)) → (done v >>= k) ≡ k v
unfolding ◌>>=◌ done
done_bind v k = after_none (k v)

abbrev with_first : AtReg → Regs → Regs
with_first v vs = record { regs = v ∷ vs.regs; next = vs.next }

-- A value and the rest of a list, then what follows.
regroup : {B : Type 0} (m : Res (Out AtReg)) (tail : ℕ → Res (Out Regs)) (k : Regs → Res (Out B))
    → ((m >>= λ v. tail v.next >>= λ vs. done (with_first v vs)) >>= k) ≡ (m >>= λ v. tail v.next >>= λ vs. k (with_first v vs))
regroup m tail k =
    bind_assoc m (λ v. tail v.next >>= λ vs. done (with_first v vs)) k
    ∙ ap (λ f. m >>= f) (λ j v. (bind_assoc (tail v.next) (λ vs. done (with_first v vs)) k ∙ ap (λ g. tail v.next >>= g) (λ i vs. done_bind (with_first v vs) k i)) j)

-- What may follow a list: anything, or that in which a is found.
abbrev Tail : Bool → (img : List ℕ) (want end : ℕ) → Spot → (Regs → Res (Out AtReg)) → Type 0
Tail true img want end a k = Unit {0}
Tail false img want end a k = (v : Regs) (t : Tally) → Found (told img want) (k v) t end want a

tail_with : (b : Bool) (img : List ℕ) (want end : ℕ) (a : Spot) (k : Regs → Res (Out AtReg)) (u : AtReg) → Tail b img want end a k → Tail b img want end a (λ vs. k (with_first u vs))
tail_with true img want end a k u h = tt
tail_with false img want end a k u h = λ v t. h (with_first u v) t

-- Whatever is found in the rest of a list is found in all of it.
pub record Rest (img : List ℕ) (rest all : Res (Out Regs)) (s st : St) (want : ℕ) : Type 0 where
  pub all_of : (b : Bool) (a : Spot) (end : ℕ) → ((k : Regs → Res (Out AtReg)) → Tail b img want end a k → Found (told img want) (rest >>= k) (tally s) end want a)
      → (k : Regs → Res (Out AtReg)) → Tail b img want end a k → Found (told img want) (all >>= k) (tally st) end want a

pub rest_begin : {img : List ℕ} {all : Res (Out Regs)} {st : St} {want : ℕ} → Rest img all all st st want
rest_begin = record { all_of = λ b a end h. h }

module _ {img scope : List ℕ} {R : Rules} {d x want : ℕ} {rest all : Res (Out Regs)} {s st v : St} (tail : ℕ → Res (Out Regs)) (h : Rest img rest all s st want)
    (e : rest ≡ (steps img scope R (expr_at d img x) s >>= λ v. tail v.next >>= λ vs. done (with_first v vs))) (c : Counts img scope R d x s v) where
  same : (k : Regs → Res (Out AtReg)) → (steps img scope R (expr_at d img x) s >>= λ w. tail w.next >>= λ vs. k (with_first w vs)) ≡ (rest >>= k)
  same k = sym (ap (λ (m : Res (Out Regs)). m >>= k) e ∙ regroup _ tail k)

  rest_go : v.n ≤ want → Rest img (tail v.next) all v st want
  rest_go l = record {
    all_of = λ b a end f. h.all_of b a end (λ k t. subst (λ (m : Res (Out AtReg)). Found (told img want) m (tally s) end want a) (same k)
        (found_later (told img want) (λ w. tail w.next >>= λ vs. k (with_first w vs)) c.goes l (f (λ vs. k (with_first (value_in v) vs)) (tail_with b img want end a k (value_in v) t))));
  }

  rest_in : {p : ℕ} {r : Step} → want < v.n → r ≡ into x v.n s → Listed img scope R d all p st want r
  rest_in {p} {r} l f = within (ap (λ (y : Step). y.way) f)
      (λ a g k end. h.all_of true a end (λ k t. subst (λ (m : Res (Out AtReg)). Found (told img want) m (tally s) end want a) (same k) (into_first c l f g _)) k tt)

rest_end : {img scope : List ℕ} {R : Rules} {d p want : ℕ} {rest all : Res (Out Regs)} {s st z : St} {r : Step} (v : Regs) → Rest img rest all s st want → rest ≡ done v → r ≡ owned p z → Listed img scope R d all p st want r
rest_end {img} {scope} {R} {d} {p} {want} {rest} {all} {s} v h e f = past _ f
    (λ a k end t. h.all_of false a end (λ k t. subst (λ (m : Res (Out AtReg)). Found (told img want) m (tally s) end want a) (sym (ap (λ (m : Res (Out Regs)). m >>= k) e ∙ done_bind v k)) (t v (tally s))) k t)

-- The arguments, and the values of a literal, from the one at p on, number i of 64.
module _ (img scope : List ℕ) (R : Rules) (d e first : ℕ) (st : St) (want : ℕ) where
  abbrev pub Args : (p : ℕ) (s : St) (i : ℕ) → Type 0
  Args p s i = Rest img (args img scope R (exprs_from (64 - i) (expr_at d img) img p e) s) (args img scope R (exprs_from 64 (expr_at d img) img first e) st) s st want

  abbrev pub Inits : (p : ℕ) (s : St) (i : ℕ) → Type 0
  Inits p s i = Rest img (inits img scope R (inits_from (64 - i) (expr_at d img) img p e) s) (inits img scope R (inits_from 64 (expr_at d img) img first e) st) s st want

module _ (img scope : List ℕ) (R : Rules) (d e first : ℕ) (st : St) (want p i : ℕ) where
  abbrev more : ℕ → Res (Out Regs)
  more n = gens (rules_of R) (contract_at img) (exprs_from (64 - (i + 1)) (expr_at d img) img (after img p) e) (scope_in img scope) n

  abbrev others : ℕ → Res (Out Regs)
  others n = gen_inits (rules_of R) (contract_at img) (inits_from (64 - (i + 1)) (expr_at d img) img (after img p) e) (scope_in img scope) n

  module _ {s : St} (h : Args img scope R d e first st want p s i) where
    pub args_go : {q : ℕ} {v : St} → i < 64 → p < e → q ≡ after img p → Counts img scope R d p s v → v.n ≤ want → Args img scope R d e first st want q v (i + 1)
    args_go l m f c b = rw f (rest_go more h (args_more R (contract_at img) (expr_at d img) img (scope_in img scope) s.next i p e l m) c b)

    pub args_in : {a : ℕ} {v : St} {r : Step} → i < 64 → p < e → Counts img scope R d p s v → want < v.n → r ≡ into p v.n s
        → Listed img scope R d (args img scope R (exprs_from 64 (expr_at d img) img first e) st) a st want r
    args_in l m c b f = rest_in more h (args_more R (contract_at img) (expr_at d img) img (scope_in img scope) s.next i p e l m) c b f

    pub args_past : {a : ℕ} {z : St} {r : Step} → e ≤ p → r ≡ owned a z → Listed img scope R d (args img scope R (exprs_from 64 (expr_at d img) img first e) st) a st want r
    args_past l f = rest_end _ h (args_end R (contract_at img) (expr_at d img) img (scope_in img scope) s.next (64 - i) p e l) f

    pub args_whole : {a : ℕ} {z : St} {r : Step} → 64 ≤ i → r ≡ owned a z → Listed img scope R d (args img scope R (exprs_from 64 (expr_at d img) img first e) st) a st want r
    args_whole l f = rest_end _ h (args_full R (contract_at img) (expr_at d img) img (scope_in img scope) s.next i p e l) f

  module _ {s : St} (h : Inits img scope R d e first st want p s i) where
    pub inits_go : {q x : ℕ} {v : St} → i < 64 → p < e → x ≡ second img p → q ≡ after img p → Counts img scope R d x s v → v.n ≤ want → Inits img scope R d e first st want q v (i + 1)
    inits_go l m y f c b = rw f (rest_go others h (inits_more R (contract_at img) (expr_at d img) img (scope_in img scope) s.next i p e l m) (rw y at c) b)

    pub inits_in : {a x : ℕ} {v : St} {r : Step} → i < 64 → p < e → x ≡ second img p → Counts img scope R d x s v → want < v.n → r ≡ into x v.n s
        → Listed img scope R d (inits img scope R (inits_from 64 (expr_at d img) img first e) st) a st want r
    inits_in {a} {x} {v} l m y c b f = rest_in others h (inits_more R (contract_at img) (expr_at d img) img (scope_in img scope) s.next i p e l m) (rw y at c) b (f ∙ ap (λ (z : ℕ). into z v.n s) y)

    pub inits_past : {a : ℕ} {z : St} {r : Step} → e ≤ p → r ≡ owned a z → Listed img scope R d (inits img scope R (inits_from 64 (expr_at d img) img first e) st) a st want r
    inits_past l f = rest_end _ h (inits_end R (contract_at img) (expr_at d img) img (scope_in img scope) s.next (64 - i) p e l) f

    pub inits_whole : {a : ℕ} {z : St} {r : Step} → 64 ≤ i → r ≡ owned a z → Listed img scope R d (inits img scope R (inits_from 64 (expr_at d img) img first e) st) a st want r
    inits_whole l f = rest_end _ h (inits_full R (contract_at img) (expr_at d img) img (scope_in img scope) s.next i p e l) f

-- Whatever is found in the part that t leads to is found in the whole.
pub record Down (img scope : List ℕ) (R : Rules) (depth p : ℕ) (st : St) (end want d : ℕ) (t : Step) : Type 0 where
  pub whole : (a : Spot) → Finds img scope R (expr_at d img t.place) t.st t.to want a → Finds img scope R (expr_at depth img p) st end want a

pub down_begin : {img scope : List ℕ} {R : Rules} {depth p : ℕ} {st : St} {end want : ℕ} {t : Step} → t ≡ into p end st → Down img scope R depth p st end want depth t
down_begin {img} {scope} {R} {depth} {p} {st} {end} {want} e = record { whole = λ a h. subst (λ (y : Step). Finds img scope R (expr_at depth img y.place) y.st y.to want a) e h }

module _ {img scope : List ℕ} {R : Rules} {depth p : ℕ} {st : St} {end want d : ℕ} {t : Step} (h : Down img scope R depth p st end want d t) where
  pub down_go : {e : ℕ} {u : Step} → (d ≡ 0 → ⊥) → e ≡ d - 1 → Steps img scope R e t.place t.st t.to want u → u.way ≡ way.Value → Down img scope R depth p st end want e u
  down_go {e} {u} z f l x = record { whole = λ a g. let q : suc e ≡ d = omega (arith, z, f) in h.whole a (record { found = rw q at (l.leads a (goes x g)) }) }

  pub down_own : {e : ℕ} {u : Step} → (d ≡ 0 → ⊥) → e ≡ d - 1 → Steps img scope R e t.place t.st t.to want u → (u.way ≡ way.Value → ⊥) → Finds img scope R (expr_at depth img p) st end want (spot_in_lem u)
  down_own {e} {u} z f l x = let q : suc e ≡ d = omega (arith, z, f) in h.whole (spot_in_lem u) (record { found = rw q at (l.leads (spot_in_lem u) (owns x refl)) })

  pub down_end : {a : Spot} → d ≡ 0 → Finds img scope R (expr_at depth img p) st end want a
  unfolding expr_at gen
  down_end {a} z = h.whole a (record { found = rw z (found_none _) })
