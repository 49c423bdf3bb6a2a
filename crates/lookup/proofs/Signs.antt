-- What the tables of a contract give, from the places that the code finds.
use Rattle.std.specs.Prelude.{Option, None, Some}
use mathlib.Core.Bool.{Bool, true, false}
use mathlib.Core.List.{List, [], ◌∷◌, map}
use mathlib.Core.Path.{◌≡◌, refl, sym, ap, ◌∙◌}
use Prim.Native.Nat.{ℕ, zero, suc, ◌-◌, ◌≤◌, ◌<◌}
use native.Mathlib.Numerals.{sub-one}
use native.Mathlib.Omega.{arith}
use lib.ListN.{length, drop}
use Rattle.rules.specs.Bytes.{pick, Name, inside, after, eq_name}
use Rattle.rules.specs.Tables.{or_else, last, nth, mapped}
use Rattle.rules.specs.Tree.{Field, Function, Contract}
use Rattle.rules.specs.Types.{Typ, type_named, clash}
use Rattle.rules.specs.Builtins.{Builtin, builtin, arity}
use Rattle.rules.specs.Analyse.{Sig, sig, sig_of, repeated, ret_type, signature, field_type_lem, field_name, function_name, clashes, params_of}
use Rattle.rules.specs.Read.{places_in, places_from, name_in, field_at, fields_at, struct_at, function_at, second, third}
use Rattle.lookup.specs.declared.Callee.TheVariants as callee
use Rattle.lookup.specs.declared.Due.TheVariants as due
use Rattle.lookup.specs.Answers.{sig_at, type_in, due_of}
use Rattle.lookup.specs.Places.{places_more, places_end, length_map}

-- a table of what is read at places, searched by the names at the places
last_map : {A : Type 0} (f : ℕ → A) (n : A → Name) (m : ℕ → Name) → ((p : ℕ) → n (f p) ≡ m p) → (x : Name) (ps : List ℕ) → last n x (map f ps) ≡ mapped f (last m x ps)
unfolding last mapped or_else pick
last_map f n m e x [] = refl
last_map f n m e x (p ∷ ps) = rw (last_map f n m e x ps, e p) (or_map f (last m x ps) (eq_name (m p) x) p)
  where
    or_map : {A : Type 0} (f : ℕ → A) (o : Option ℕ) (b : Bool) (p : ℕ) → or_else (mapped f o) (pick b (Some (f p)) None) ≡ mapped f (or_else o (pick b (Some p) None))
    or_map f (Some a) b p = refl
    or_map f None true p = refl
    or_map f None false p = refl

module _ (img : List ℕ) where
  pub field_name_lem : (p : ℕ) → field_name (field_at img p) ≡ name_in img p
  unfolding field_at
  field_name_lem p = refl

  map_field : (o : Option ℕ) → mapped (λ (f : Field). type_named f.type) (mapped (field_at img) o) ≡ mapped (type_in img) o
  unfolding mapped field_at
  map_field (Some p) = refl
  map_field None = refl

  pub field_last : (x : Name) (s : ℕ) {o : Option ℕ} → o ≡ last (name_in img) x (places_in 64 img (second img s)) → mapped (type_in img) o ≡ field_type_lem x (struct_at img s)
  unfolding field_type_lem struct_at fields_at
  field_last x s h = rw (last_map (field_at img) field_name (name_in img) field_name_lem x (places_in 64 img (second img s)), ← h) (sym (map_field _))

  map_fields : (ps : List ℕ) → map (type_in img) ps ≡ map (λ (q : Field). type_named q.type) (map (field_at img) ps)
  unfolding field_at
  map_fields [] = refl
  map_fields (p ∷ ps) = ap (λ (l : List Typ). type_in img p ∷ l) (map_fields ps)

  pub user_dues : (p : ℕ) → map (type_in img) (places_in 512 img (second img p)) ≡ params_of (sig_at img (callee.User p))
  unfolding params_of sig_at sig_of function_at fields_at
  user_dues p = map_fields (places_in 512 img (second img p))

  pub count_fields : (p e k : ℕ) {n : ℕ} → n ≡ length (places_from k img p e) → n ≡ length (due_of img (due.Fields p e k))
  unfolding due_of
  count_fields p e k h = h ∙ sym (length_map (type_in img) (places_from k img p e))

  pub gives_type : (p : ℕ) → inside img (third img p) < after img (third img p) → type_named (name_in img (third img p)) ≡ ret_type (function_at img p).ret
  unfolding function_at nth mapped ret_type
  gives_type p h = rw (places_more img 1 _ _ (λ z. omega arith) h)

  pub gives_none : (p : ℕ) → after img (third img p) ≤ inside img (third img p) → Typ.void ≡ ret_type (function_at img p).ret
  unfolding function_at nth mapped ret_type
  gives_none p h = rw (places_end img 1 _ _ h)

-- so many parameters of type u64
pub count_repeated : (k : ℕ) → k ≡ length (repeated k)
unfolding repeated
count_repeated zero = refl
count_repeated (suc k) = ap suc (count_repeated k)

pub repeated_first : (k : ℕ) → (k ≡ 0 → ⊥) → Some Typ.u64 ≡ nth 0 (repeated k)
unfolding repeated nth
repeated_first zero h = absurd (h refl)
repeated_first (suc k) h = refl

pub repeated_rest : (k : ℕ) → (k ≡ 0 → ⊥) → repeated (k - 1) ≡ drop 1 (repeated k)
unfolding repeated
repeated_rest zero h = absurd (h refl)
repeated_rest (suc k) h = rw (sub-one)

-- the builtins come before the functions of the contract
abbrev builtin_sig : Builtin → Sig
builtin_sig b = sig (repeated (arity b)) Typ.u64

some_arity : (o : Option Builtin) (u : Option Sig) {k : ℕ} → Some k ≡ mapped arity o → Some (sig (repeated k) Typ.u64) ≡ or_else (mapped builtin_sig o) u
unfolding or_else mapped
some_arity (Some b) u {k} h = let e : k ≡ arity b = cc in rw e
some_arity None u h = absurd (let z : ◌≡◌ {A = ℕ} 0 1 = cc in omega arith)

none_arity : (o : Option Builtin) (u : Option Sig) → None ≡ mapped arity o → or_else (mapped builtin_sig o) u ≡ u
unfolding or_else mapped
none_arity (Some b) u h = absurd (let z : ◌≡◌ {A = ℕ} 0 1 = cc in omega arith)
none_arity None u h = refl

module _ (C : Contract) (x : Name) where
  pub sig_builtin : {k : ℕ} → Some k ≡ mapped arity (builtin x) → Some (sig (repeated k) Typ.u64) ≡ signature C x
  unfolding signature
  sig_builtin h = some_arity (builtin x) _ h

  pub sig_user : {f : Function} → None ≡ mapped arity (builtin x) → Some f ≡ last function_name x C.functions → Some (sig_of f) ≡ signature C x
  unfolding signature mapped
  sig_user h k = sym (none_arity (builtin x) _ h ∙ rw (← k))

  pub sig_none : None ≡ mapped arity (builtin x) → None ≡ last function_name x C.functions → None ≡ signature C x
  unfolding signature mapped
  sig_none h k = sym (none_arity (builtin x) _ h ∙ rw (← k))

pub clash_at : {o : Option Typ} {e : Typ} {b : Bool} (t : Typ) → Some e ≡ o → b ≡ clash e t → b ≡ clashes o t
unfolding clashes
clash_at t h k = rw (← h) k

pub clash_past : {o : Option Typ} (t : Typ) → None ≡ o → false ≡ clashes o t
unfolding clashes
clash_past t h = rw (← h)
