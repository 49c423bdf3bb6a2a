-- What the answers of the code stand for: a place stands for the name there.
--     ty_of got_of sig_at due_of misfit_of     types, places, parameters
--     env_of                                       the names in scope that an array holds
--     fault_of typed_of checked_of                   refusals with all that the Rust's text says
-- Assumes nothing.
use Rattle.std.specs.Prelude.{Bool, List, [], map, ℕ, zero, suc, ◌+◌, ◌/◌, ◌%◌, eqb, get_or, Err, None, Ok, Option, Result, Some}
use Rattle.rules.specs.Bytes.{pick, Name, name_at}
use Rattle.rules.specs.Tables.{or_else}
use Rattle.rules.specs.Types.{Typ, type_named, Env, with_name}
use Rattle.rules.specs.Refusal.{Refusal, Res, ok, bad}
use Rattle.rules.specs.Analyse.{Sig, sig, sig_of, repeated, Misfit}
use Rattle.rules.specs.Read.{function_at, places_from, second}
use Rattle.records.specs.Keys.{key_of}
use Rattle.records.specs.Cells.{place_in, number_in}
use Rattle.lookup.specs.declared.Ty.{Ty}
use Rattle.lookup.specs.declared.Ty.TheVariants as ty
use Rattle.lookup.specs.declared.Callee.{Callee}
use Rattle.lookup.specs.declared.Callee.TheVariants as callee
use Rattle.lookup.specs.declared.Due.{Due}
use Rattle.lookup.specs.declared.Due.TheVariants as due
use Rattle.lookup.specs.declared.Misfit as code
use Rattle.lookup.specs.declared.Fault.{Fault}
use Rattle.lookup.specs.declared.Fault.TheVariants as fault

unfoldable pub ty_of : List ℕ → Ty → Typ
ty_of img ty.U64 = Typ.u64
ty_of img ty.Bool = Typ.bool
ty_of img ty.Field = Typ.field
ty_of img ty.Void = Typ.void
ty_of img ty.Unknown = Typ.unknown
ty_of img (ty.Struct p) = Typ.struct (name_at img p)

unfoldable pub got_of : List ℕ → Option Ty → Option Typ
got_of img (Some t) = Some (ty_of img t)
got_of img None = None

unfoldable pub sig_at : List ℕ → Callee → Option Sig
sig_at img (callee.Builtin k) = Some (sig (repeated k) Typ.u64)
sig_at img (callee.User p) = Some (sig_of (function_at img p))
sig_at img callee.Undefined = None

-- the type of the Field at p
abbrev pub type_in : List ℕ → ℕ → Typ
type_in img p = type_named (name_at img (second img p))

unfoldable pub due_of : List ℕ → Due → List Typ
due_of img (due.Words k) = repeated k
due_of img (due.Fields p e k) = map (type_in img) (places_from k img p e)

-- a type by its tag and its name
unfoldable pub typ_of : ℕ → Name → Typ
typ_of k x =
    pick (eqb k 0) Typ.u64 (pick (eqb k 1) Typ.bool (pick (eqb k 2) Typ.field (pick (eqb k 3) Typ.void
    (pick (eqb k 4) Typ.unknown (Typ.struct x)))))

-- the type beside a place: its tag, and the place of a struct's name
abbrev pub type_beside : List ℕ → ℕ → Typ
type_beside img c = typ_of (number_in c % 8) (name_at img (number_in c / 8))

-- the names in scope that an array holds, two cells to a name: the name's key, and its place with its type beside it.
-- The last of them is the newest. A name with another key than its own is none.
unfoldable pub env_of : List ℕ → List ℕ → ℕ → Env
env_of img env zero = []
env_of img env (suc zero) = []
env_of img env (suc (suc k)) =
    pick (eqb (get_or env k 0) (key_of (name_at img (place_in (get_or env (k + 1) 0)))))
    (with_name (name_at img (place_in (get_or env (k + 1) 0))) (type_beside img (get_or env (k + 1) 0)) (env_of img env k))
    (env_of img env k)

unfoldable pub ret_of : Option Sig → Typ
ret_of (Some s) = s.ret
ret_of None = Typ.unknown

-- 01: the refusal, with its number and its place
unfoldable pub fault_of : List ℕ → Fault → Refusal
fault_of img (fault.Ident p x) = Refusal.undefined_name p (name_at img x)
fault_of img (fault.Target p x) = Refusal.undefined_target p (name_at img x)
fault_of img (fault.Assign p a b) = Refusal.assign_type p (ty_of img a) (ty_of img b)
fault_of img (fault.Return p a b) = Refusal.return_type p (ty_of img a) (ty_of img b)
fault_of img (fault.NoField p s x) = Refusal.no_field p (name_at img s) (name_at img x)
fault_of img (fault.NotStruct p) = Refusal.not_struct p
fault_of img (fault.InitType p x) = Refusal.init_type p (name_at img x)
fault_of img (fault.InitField p x) = Refusal.init_field p (name_at img x)
fault_of img (fault.NoStruct p x) = Refusal.no_struct p (name_at img x)
fault_of img (fault.ArgCount p f a b) = Refusal.arg_count p (name_at img f) a b
fault_of img (fault.ArgType p i f) = Refusal.arg_type p i (name_at img f)
fault_of img (fault.NoFunction p f) = Refusal.no_function p (name_at img f)
fault_of img (fault.Operands p) = Refusal.operands p

unfoldable pub typed_of : List ℕ → Result Ty Fault → Res Typ
typed_of img (Ok t) = ok (ty_of img t)
typed_of img (Err f) = bad (fault_of img f)

unfoldable pub checked_of : List ℕ → Result (Unit {0}) Fault → Res (Unit {0})
checked_of img (Ok tt) = ok tt
checked_of img (Err f) = bad (fault_of img f)

unfoldable pub misfit_of : Option code.Misfit → Option Misfit
misfit_of None = None
misfit_of (Some m) = Some (record { index = m.index; place = m.place })

-- the misfit found before, else the argument of index i at p if it clashes
unfoldable pub noted : Bool → (i p : ℕ) → Option Misfit → Option Misfit
noted b i p m = or_else m (pick b (Some (record { index = i; place = p })) None)
