-- Questions with their answers: a name in scope, a storage field, a function, a builtin.
-- Assumes nothing.
use Rattle.std.specs.Prelude.{None, Option, Some}
use mathlib.Core.Path.{◌≡◌, refl, sym, ap, ◌∙◌, subst}
use mathlib.Core.Bool.{true, false}
use mathlib.Core.List.{List, [], ◌∷◌}
use Prim.Native.Nat.{ℕ, ◌%◌}
use Rattle.rules.specs.Bytes.{pick, Name, eq_name, le16, le32, name_at}
use Rattle.rules.specs.Read.{contract_at}
use Rattle.rules.specs.Refusal.{Refusal, ok, known, number_of, place_of}
use Rattle.rules.specs.Builtins as rules
use Rattle.rules.specs.Emit.{find}
use Rattle.rules.specs.Generate.{slot}
use Rattle.records.specs.Keys.{key_of, differ}
use Rattle.tables.specs.declared.Found.{Found}
use Rattle.tables.specs.Listed.{Named, index_of, functions_in, storage_in}
use Rattle.tables.specs.Carried.{function_index_is, storage_index_is}
use Rattle.emit.specs.declared.St.{St}
use Rattle.emit.specs.Ran.{Tally, Failed, or_first, raw}
use Rattle.emit.specs.State.{tally, moved, Fails}
use Rattle.emit.specs.Refines.{answered, refuses}
use Rattle.expr.specs.Scope.{scope_in}
use Rattle.expr.specs.Names.{reg_of, Unknown, function_in}
use Rattle.expr.specs.Steps.{Finds, Slots}

-- The refusal that has this number and place.
as_refusal : {s r : Tally} (q : Refusal) (number place : ℕ) → number_of q ≡ number → place_of q ≡ place → Failed s r number place → Failed s r (number_of q) (place_of q)
as_refusal {s} {r} q number place e f h = subst (λ (n : ℕ). Failed s r n (place_of q)) (sym e) (subst (λ (p : ℕ). Failed s r number p) (sym f) h)

module _ (img s : List ℕ) (x number place : ℕ) (st r : St) (l : Option ℕ) where
  pub finds : (k : ℕ) → reg_of l ≡ find (name_at img x) (scope_in img s) → l ≡ Some k → r ≡ moved st k st.next → Finds img s x number place st r
  unfolding reg_of known
  finds k e f g = record {
    ran = λ C c q a b z. answered (raw C) _ (ap (known q) (sym e ∙ ap reg_of f) ∙ ap ok (sym (ap (λ (t : St). t.reg % 256) g))) (ap tally g);
    next = ap (λ (t : St). t.next) g;
  }

  pub finds_not : reg_of l ≡ find (name_at img x) (scope_in img s) → l ≡ None → Fails st r number place → Finds img s x number place st r
  unfolding reg_of known
  finds_not e f g = record {
    ran = λ C c q a b z. refuses (raw C) _ q (ap (known q) (sym e ∙ ap reg_of f)) z (as_refusal q number place a b g.failed);
    next = g.next;
  }

module _ (img : List ℕ) (x : ℕ) (f : Option Found) where
  pub has_slot : (number place : ℕ) (st : St) (g : Found) → Named img x (storage_in img) f → f ≡ Some g → Slots img x number place st (record { st = st; slot = g.index })
  unfolding index_of known slot
  has_slot number place st g n e = record {
    ran = λ R c q a b z. answered (raw (contract_at img)) _ (ap (known q) (sym (storage_index_is img x f n) ∙ ap index_of e)) refl;
    next = refl;
    reg = refl;
  }

  pub no_slot : (number place : ℕ) (st r : St) → Named img x (storage_in img) f → f ≡ None → Fails st r number place → Slots img x number place st (record { st = r; slot = 0 })
  unfolding index_of known slot
  no_slot number place st r n e g = record {
    ran = λ R c q a b z. refuses (raw (contract_at img)) _ q (ap (known q) (sym (storage_index_is img x f n) ∙ ap index_of e)) z (as_refusal q number place a b g.failed);
    next = g.next;
    reg = g.reg;
  }

  pub has_function : (g : Found) → Named img x (functions_in img) f → f ≡ Some g → g.index ≡ function_in img (name_at img x)
  unfolding index_of or_first
  has_function g n e = ap or_first (sym (ap index_of e) ∙ function_index_is img x f n)

  pub no_function : Named img x (functions_in img) f → f ≡ None → 256 ≡ function_in img (name_at img x)
  unfolding index_of or_first
  no_function n e = ap or_first (sym (ap index_of e) ∙ function_index_is img x f n)

-- The builtins, by their names in turn.
abbrev poseidon : Name
poseidon = 112 ∷ 111 ∷ 115 ∷ 101 ∷ 105 ∷ 100 ∷ 111 ∷ 110 ∷ []

abbrev sender : Name
sender = 109 ∷ 115 ∷ 103 ∷ 58 ∷ 58 ∷ 115 ∷ 101 ∷ 110 ∷ 100 ∷ 101 ∷ 114 ∷ []

abbrev nonce : Name
nonce = 109 ∷ 115 ∷ 103 ∷ 58 ∷ 58 ∷ 110 ∷ 111 ∷ 110 ∷ 99 ∷ 101 ∷ []

abbrev number : Name
number = 98 ∷ 108 ∷ 111 ∷ 99 ∷ 107 ∷ 58 ∷ 58 ∷ 110 ∷ 117 ∷ 109 ∷ 98 ∷ 101 ∷ 114 ∷ []

abbrev merkle : Name
merkle = 118 ∷ 101 ∷ 114 ∷ 105 ∷ 102 ∷ 121 ∷ 95 ∷ 109 ∷ 101 ∷ 114 ∷ 107 ∷ 108 ∷ 101 ∷ 95 ∷ 112 ∷ 114 ∷ 111 ∷ 111 ∷ 102 ∷ []

module _ (x : Name) where
  pub is_poseidon : eq_name x poseidon ≡ true → Some rules.Builtin.poseidon ≡ rules.builtin x
  unfolding rules.builtin pick
  is_poseidon a = rw a refl

  pub is_sender : eq_name x poseidon ≡ false → eq_name x sender ≡ true → Some rules.Builtin.sender ≡ rules.builtin x
  unfolding rules.builtin pick
  is_sender a b = rw (a, b) refl

  pub is_nonce : eq_name x poseidon ≡ false → eq_name x sender ≡ false → eq_name x nonce ≡ true → Some rules.Builtin.nonce ≡ rules.builtin x
  unfolding rules.builtin pick
  is_nonce a b c = rw (a, b, c) refl

  pub is_number : eq_name x poseidon ≡ false → eq_name x sender ≡ false → eq_name x nonce ≡ false → eq_name x number ≡ true → Some rules.Builtin.block-number ≡ rules.builtin x
  unfolding rules.builtin pick
  is_number a b c d = rw (a, b, c, d) refl

  pub is_merkle : eq_name x poseidon ≡ false → eq_name x sender ≡ false → eq_name x nonce ≡ false → eq_name x number ≡ false → eq_name x merkle ≡ true → Some rules.Builtin.merkle ≡ rules.builtin x
  unfolding rules.builtin pick
  is_merkle a b c d e = rw (a, b, c, d, e) refl

  pub is_none : eq_name x poseidon ≡ false → eq_name x sender ≡ false → eq_name x nonce ≡ false → eq_name x number ≡ false → eq_name x merkle ≡ false → None ≡ rules.builtin x
  unfolding rules.builtin pick
  is_none a b c d e = rw (a, b, c, d, e) refl

-- A key that is none of theirs.
pub no_builtin : (key : ℕ) → (key ≡ 7957689470423363440 → ⊥) → (key ≡ 8243105117560599405 → ⊥) → (key ≡ 7305804444525359981 → ⊥) → (key ≡ 8243102914930764898 → ⊥)
    → (key ≡ 7381240851469591926 → ⊥) → Unknown key
unfolding key_of le32 le16
no_builtin key a b c d e x h = sym (is_none x (differ x poseidon (λ z. a (sym h ∙ z))) (differ x sender (λ z. b (sym h ∙ z))) (differ x nonce (λ z. c (sym h ∙ z))) (differ x number (λ z. d (sym h ∙ z)))
    (differ x merkle (λ z. e (sym h ∙ z))))
