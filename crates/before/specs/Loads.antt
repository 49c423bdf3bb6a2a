-- 02: P2: of each access that analysis accepts, if its base is of a declared struct, the Load's number is 8 times the first position of the field in
-- that struct, as last declared.
-- Assumes nothing.
use Rattle.std.specs.Prelude.{◌≡◌, refl, List, [], ◌∷◌, ◌++◌, ℕ, suc, ◌*◌, ◌/◌, None, Option, Some}
use Rattle.std.proofs.Math.Path.{sym}
use Rattle.std.proofs.Common.{ap, subst, ◌∙◌, eq-eqb, ne_eqb}
use Rattle.isa.specs.declared.Opcode.TheVariants as op
use Rattle.rules.specs.Bytes.{pick, Name}
use Rattle.rules.specs.Tables.{first_index}
use Rattle.rules.specs.Tree.{Expr, Struct, Contract}
use Rattle.rules.specs.Refusal.{Res, ok, bad, ◌>>=◌}
use Rattle.rules.specs.Analyse.{field_name}
use Rattle.rules.specs.Meant.{Access, accesses, base_at}
use Rattle.rules.specs.Layout.{with_position, positions, first_of, declared, among, choices, offset}
use Rattle.rules.specs.Machine.{Imm}
use Rattle.rules.specs.Emit.{Rules, Scope, Open, Value, emit}
use Rattle.rules.specs.Generate.{alloc_reg_lem, expr}
use Rattle.records.specs.Names.{name_refl}
use Rattle.bounds.specs.Held.{Each}
use Rattle.bounds.specs.Sparse.{Apart}
use Rattle.before.specs.Meant.{bad_ok, meant_has}

-- Where no two stand at one place, each is the one that is found by its place and field.
base_later : (a : Access) (l k : List Access) → Each (λ (b : Access). a.place / 3 ≡ b.place / 3 → ⊥) k → Each (λ (b : Access). base_at b.place b.field l ≡ b.base) k
    → Each (λ (b : Access). base_at b.place b.field (a ∷ l) ≡ b.base) k
unfolding base_at pick
base_later a l [] f h = tt
base_later a l (b ∷ k) f h = (rw (ne_eqb a.place b.place (λ z. f.0 (ap (λ n. n / 3) z))) h.0, base_later a l k f.1 h.1)

pub base_found : (l : List Access) → Apart l → Each (λ (a : Access). base_at a.place a.field l ≡ a.base) l
unfolding base_at pick
base_found [] h = tt
base_found (a ∷ l) h = (rw (eq-eqb a.place a.place refl, name_refl a.field), base_later a l l h.0 (base_found l h.1))

-- The code c ends with a Load of the number k, of the record p.
unfoldable pub EndsWithLoad : (p k : ℕ) → List Open → Type 0
EndsWithLoad p k c = (w : List Open) × ((r : ℕ) × ((b : ℕ) × (c ≡ w ++ (emit p op.Load r b 0 (Imm.pos k) ∷ []))))

code_of : Res Value → List Open
code_of (ok v) = v.code
code_of (bad r) = []

-- 000: FieldAccess: the words of the base, then a Load of the offset.
module _ (R : Rules) (C : Contract) (p : ℕ) (e : Expr) (x : Name) (s : Scope) (n : ℕ) (v : Value) where
  loading : Value → ℕ → Value
  loading u r = record { code = u.code ++ (emit p op.Load r u.reg 0 (Imm.pos (offset C p x)) ∷ []); reg = r; next = suc r }

  loaded : (u : Value) (m : Res ℕ) → (m >>= λ r. ok (loading u r)) ≡ ok v → EndsWithLoad p (offset C p x) v.code
  unfolding ◌>>=◌ EndsWithLoad code_of loading
  loaded u (ok r) h = (u.code, (r, (u.reg, sym (ap code_of h))))
  loaded u (bad q) h = bad_ok q v h

  behind_base : (m : Res Value) → (m >>= λ u. alloc_reg_lem R C p u.next >>= λ r. ok (loading u r)) ≡ ok v → EndsWithLoad p (offset C p x) v.code
  unfolding ◌>>=◌
  behind_base (ok u) h = loaded u (alloc_reg_lem R C p u.next) h
  behind_base (bad q) h = bad_ok q v h

  pub access_load : expr R C (Expr.field-access p e x) s n ≡ ok v → EndsWithLoad p (offset C p x) v.code
  unfolding expr loading
  access_load h = behind_base (expr R C e s n) h

-- Where one struct is meant and has the field, that is the offset.
module _ (C : Contract) (p : ℕ) (x : Name) (d : Struct) (e : declared C (base_at p x (accesses C)) ≡ Some d) where
  at_first : (o : Option ℕ) → first_index field_name 0 x d.fields ≡ o → (i : ℕ) × ((first_index field_name 0 x d.fields ≡ Some i) × (offset C p x ≡ i * 8))
  unfolding offset choices among positions with_position first_of
  at_first (Some i) h = (i, (h, rw (e, h)))
  at_first None h = absurd (meant_has C p x d e h)

-- 02: P2: what the Load of an access has.
unfoldable pub Meant : Contract → Access → Type 0
Meant C a = (d : Struct) → declared C a.base ≡ Some d → (i : ℕ) × ((first_index field_name 0 a.field d.fields ≡ Some i)
    × ((R : Rules) (e : Expr) (s : Scope) (n : ℕ) (v : Value) → expr R C (Expr.field-access a.place e a.field) s n ≡ ok v → EndsWithLoad a.place (i * 8) v.code))

pub meant_each : (C : Contract) (l : List Access) → Each (λ (a : Access). base_at a.place a.field (accesses C) ≡ a.base) l → Each (Meant C) l
unfolding Meant
meant_each C [] h = tt
meant_each C (a ∷ l) h = (one, meant_each C l h.1)
  where
    one : Meant C a
    one d e =
        let g = at_first C a.place a.field d (ap (declared C) h.0 ∙ e) _ refl in
        (g.0, (g.1.0, λ R f s n v z. subst (λ k. EndsWithLoad a.place k v.code) g.1.1 (access_load R C a.place f a.field s n v z)))
