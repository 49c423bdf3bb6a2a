-- Fields, Inits and calls: each way out.
use Rattle.std.specs.Prelude.{Option, None, Some, ok_or, is_some, Bool, true, false}
use mathlib.Core.List.{List}
use mathlib.Core.Path.{◌≡◌}
use Prim.Native.Nat.{ℕ}
use borrow.Author.Tests.{eq-eqb, ne_eqb}
use lib.ListN.{length}
use Rattle.rules.specs.Bytes.{pick, Name}
use Rattle.rules.specs.Tree.{Struct}
use Rattle.rules.specs.Types.{Typ, init_clash}
use Rattle.rules.specs.Refusal.{Refusal, Res, ok, bad, known, unless}
use Rattle.lookup.specs.declared.Ty.{Ty}
use Rattle.lookup.specs.declared.Fault.{Fault}
use Rattle.lookup.specs.declared.Misfit as code
use Rattle.lookup.specs.Answers.{got_of, fault_of, typed_of, misfit_of, noted}
use Rattle.rules.specs.Tables.{or_else}
use Rattle.std.proofs.Common.{refl, arith}
use Rattle.rules.specs.Analyse.{Misfit, fits, fitted, init_fits_lem, field_of}

-- a type that is found, or else the refusal
pub typed_known : (img : List ℕ) (o : Option Ty) (f : Fault) {m : Option Typ} → got_of img o ≡ m → typed_of img (ok_or o f) ≡ known (fault_of img f) m
unfolding typed_of got_of known
typed_known img None f h = rw (← h)
typed_known img (Some t) f h = rw (← h)

-- a field of a struct that is not declared, and of one that is
pub field_undeclared : {o : Option Struct} (p : ℕ) (s x : Name) → None ≡ o → ok Typ.unknown ≡ field_of p s x o
unfolding field_of
field_undeclared p s x h = rw (← h)

pub field_declared : {o : Option Struct} {d : Struct} {r : Res Typ} (p : ℕ) (s x : Name) → Some d ≡ o → r ≡ field_of p s x (Some d) → r ≡ field_of p s x o
field_declared p s x h e = rw (← h) e

pub init_missing : {o : Option Typ} (p : ℕ) (x : Name) (t : Typ) → None ≡ o → bad (Refusal.init_field p x) ≡ init_fits_lem p x o t
unfolding init_fits_lem
init_missing p x t h = rw (← h)

pub init_there : {o : Option Typ} {e : Typ} {r : Res (Unit {0})} (p : ℕ) (x : Name) (t : Typ) → Some e ≡ o → r ≡ unless (init_clash e t) (Refusal.init_type p x) tt → r ≡ init_fits_lem p x o t
unfolding init_fits_lem
init_there p x t h e = rw (← h) e

module _ (p : ℕ) (f : Name) (n : ℕ) (m : Option Misfit) (ps : List Typ) (t : Typ) {k : ℕ} (e : k ≡ length ps) where
  pub fit_count : (k ≡ n → ⊥) → bad (Refusal.arg_count p f k n) ≡ fitted p f n m ps t
  unfolding fitted pick
  fit_count h = rw (← e, ne_eqb k n h)

  pub fit_type : {r : Res Typ} → k ≡ n → r ≡ fits f m t → r ≡ fitted p f n m ps t
  unfolding fitted pick
  fit_type h q = rw (← e, eq-eqb k n h) q

-- a misfit found before, or none
pub no_misfit : (m : Option code.Misfit) → is_some m ≡ false → misfit_of m ≡ None
unfolding misfit_of
no_misfit None h = refl
no_misfit (Some x) h = absurd (let z : ◌≡◌ {A = ℕ} 0 1 = cc in omega arith)

pub misfit_kept : (m : Option code.Misfit) (i p : ℕ) → misfit_of m ≡ noted false i p (misfit_of m)
unfolding misfit_of noted or_else pick
misfit_kept None i p = refl
misfit_kept (Some x) i p = refl

pub misfit_before : (m : Option code.Misfit) (b : Bool) (i p : ℕ) → is_some m ≡ true → misfit_of m ≡ noted b i p (misfit_of m)
unfolding misfit_of noted or_else
misfit_before None b i p h = absurd (let z : ◌≡◌ {A = ℕ} 0 1 = cc in omega arith)
misfit_before (Some x) b i p h = refl
