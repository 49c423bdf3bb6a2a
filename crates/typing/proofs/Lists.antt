-- Arguments and Inits, one at a time.
use Rattle.std.specs.Prelude.{Option, None, Some}
use mathlib.Core.Bool.{Bool, true, false}
use mathlib.Core.List.{List, [], ◌∷◌}
use mathlib.Core.Path.{◌≡◌, refl, sym, ◌∙◌}
use Prim.Native.Nat.{ℕ, zero, suc, ◌+◌}
use native.Mathlib.Omega.{arith}
use native.Mathlib.Nat.{zero-add}
use native.Mathlib.Numerals.{add-one}
use lib.ListN.{drop}
use Rattle.rules.specs.Bytes.{pick, Name}
use Rattle.rules.specs.Tables.{or_else, nth}
use Rattle.rules.specs.Tree.{Exprs, Struct, Contract}
use Rattle.rules.specs.Types.{Typ, Env}
use Rattle.rules.specs.Refusal.{Refusal, Res, ok, bad, ◌>>=◌}
use Rattle.rules.specs.Analyse.{Arg, Misfit, misfit, clashes, Sig, params_of, apply, applied, expr, exprs, inits}
use Rattle.rules.specs.Read.{name_in, second, expr_at}
use Rattle.bounds.specs.Lists.{exprs_of, inits_of}
use Rattle.lookup.specs.Answers.{noted}
use Rattle.lookup.specs.Results.{then_ok, then_bad}
use Rattle.typing.specs.Arguments.{Sum, sum, sum_up, sum_args, behind, one_init}
use Rattle.typing.proofs.Trees.{at_place, exprs_more, inits_more}

-- the parameters that are due after i
pub nth_drop : {A : Type 0} (i : ℕ) (l : List A) → nth 0 (drop i l) ≡ nth i l
unfolding nth
nth_drop zero l = refl
nth_drop (suc i) [] = refl
nth_drop (suc i) (a ∷ l) = nth_drop i l

drop_next : {A : Type 0} (i : ℕ) (l : List A) → drop 1 (drop i l) ≡ drop (suc i) l
drop_next zero l = refl
drop_next (suc i) [] = refl
drop_next (suc i) (a ∷ l) = drop_next i l

pub drop_more : {A : Type 0} (i : ℕ) (l : List A) → drop 1 (drop i l) ≡ drop (i + 1) l
drop_more i l = rw (add-one) (drop_next i l)

-- of two misfits the first
first_of : (m : Option Misfit) (b : Bool) (i p : ℕ) (y : Option Misfit) → or_else m (pick b (Some (record { index = i; place = p })) y) ≡ or_else (noted b i p m) y
unfolding or_else pick noted
first_of (Some x) b i p y = refl
first_of None true i p y = refl
first_of None false i p y = refl

sums : {a b : ℕ} {x y : Option Misfit} → a ≡ b → x ≡ y → ◌≡◌ {A = Res Sum} (ok (sum a x)) (ok (sum b y))
sums p q = rw (p, q)

one_more : (t : Typ) (o : Res (List Arg)) (ps : List Typ) (i p : ℕ) (m : Option Misfit)
    → (((o >>= λ vs. ok (record { place = p; type = t } ∷ vs)) >>= sum_up ps i) >>= behind m) ≡ ((o >>= sum_up ps (i + 1)) >>= behind (noted (clashes (nth i ps) t) i p m))
unfolding ◌>>=◌ sum_up behind misfit
one_more t (bad r) ps i p m = refl
one_more t (ok vs) ps i p m = rw (add-one) (sums (omega arith) (first_of m (clashes (nth i ps) t) i p (misfit ps (suc i) vs)))

or_none : (a : Option Misfit) → a ≡ or_else a None
unfolding or_else
or_none (Some a) = refl
or_none None = refl

behind_none : (o : Res Sum) → o ≡ (o >>= behind None)
unfolding ◌>>=◌ behind or_else
behind_none (bad r) = refl
behind_none (ok s) = refl

-- two steps, then a third
joined : {A B D : Type 0} (m : Res A) (f : A → Res B) (g : B → Res D) → ((m >>= f) >>= g) ≡ (m >>= λ a. f a >>= g)
unfolding ◌>>=◌
joined (ok a) f g = refl
joined (bad r) f g = refl

module _ (C : Contract) (d : ℕ) (img : List ℕ) (Γ : Env) where
  -- before the first argument
  pub args_start : (ps : List Typ) (es : Exprs) → sum_args C ps 0 es Γ ≡ (sum_args C ps 0 es Γ >>= behind None)
  args_start ps es = behind_none _

  module _ (ps : List Typ) (i : ℕ) (m : Option Misfit) where
    -- no argument more
    pub args_done : (es : Exprs) → es ≡ Exprs.none → ok (sum i m) ≡ (sum_args C ps i es Γ >>= behind m)
    unfolding exprs ◌>>=◌ sum_up behind misfit
    args_done es e = rw e (sums (omega arith) (or_none m))

    module _ {ls ms : List ℕ} {p : ℕ} (h : ls ≡ p ∷ ms) where
      -- one argument more, of type t
      pub args_next : {t : Typ} (m' : Option Misfit) → ok t ≡ expr C (expr_at d img p) Γ → m' ≡ noted (clashes (nth i ps) t) i p m
          → (sum_args C ps i (exprs_of (expr_at d img) ls) Γ >>= behind m) ≡ (sum_args C ps (i + 1) (exprs_of (expr_at d img) ms) Γ >>= behind m')
      unfolding exprs ◌>>=◌
      args_next {t} m' q w = rw (w, exprs_more (expr_at d img) h, ← q, at_place d img p) (one_more t (exprs C (exprs_of (expr_at d img) ms) Γ) ps i p m)

      -- one that is refused
      pub args_refused : {r : Refusal} → bad r ≡ expr C (expr_at d img p) Γ → bad r ≡ (sum_args C ps i (exprs_of (expr_at d img) ls) Γ >>= behind m)
      unfolding exprs ◌>>=◌
      args_refused q = rw (exprs_more (expr_at d img) h, ← q)

  module _ (s : Struct) {ls ms : List ℕ} {p : ℕ} (h : ls ≡ p ∷ ms) where
    inits_one : inits C s (inits_of (expr_at d img) img ls) Γ ≡ (one_init C s p (name_in img p) (expr_at d img (second img p)) Γ >>= λ u. inits C s (inits_of (expr_at d img) img ms) Γ)
    unfolding inits one_init
    inits_one = rw (inits_more (expr_at d img) img h) (sym (joined (expr C (expr_at d img (second img p)) Γ) _ _))

    pub inits_next : ok tt ≡ one_init C s p (name_in img p) (expr_at d img (second img p)) Γ
        → inits C s (inits_of (expr_at d img) img ls) Γ ≡ inits C s (inits_of (expr_at d img) img ms) Γ
    inits_next q = inits_one ∙ sym (then_ok _ q refl)

    pub inits_bad : {r : Refusal} → bad r ≡ one_init C s p (name_in img p) (expr_at d img (second img p)) Γ → bad r ≡ inits C s (inits_of (expr_at d img) img ls) Γ
    inits_bad q = then_bad _ q ∙ sym inits_one

pub call_done : (o : Res (List Arg)) (p : ℕ) (f : Name) (s : Option Sig) {r : Res Typ}
    → r ≡ ((o >>= sum_up (params_of s) 0) >>= λ q. applied p f q.count q.first s) → r ≡ (o >>= λ vs. apply p f vs s)
unfolding ◌>>=◌ sum_up
call_done (bad e) p f s h = h
call_done (ok vs) p f s h = rw zero-add at h
