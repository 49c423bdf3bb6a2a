-- Why each word of some contracts is there (02: P5), by computation: the places of the records, and where the offsets of patched words came from.
-- Assumes nothing.
use Rattle.std.specs.Prelude.{◌≡◌, refl, List, [], ◌∷◌, ◌++◌, map, ℕ, suc, ◌^◌, replicate, take, None}
use Rattle.rules.specs.Bytes.{pick, Name}
use Rattle.rules.specs.Emit.{count}
use Rattle.rules.specs.Compute.{computed_why}
use Rattle.rules.specs.Texts.{bytes}
use Rattle.rules.specs.Why.{because}
use Rattle.rules.specs.Writer.{le, join, rec, name, list, contract, field, struct, function, giving, let_in, constrain, if_then, if_else, while, for, just, int, ident, field_access, call}

-- 01: the names that the samples use
abbrev main : Name
main = bytes "main"

abbrev x : Name
x = bytes "x"

abbrev y : Name
y = bytes "y"

abbrev f : Name
f = bytes "f"

abbrev A : Name
A = bytes "A"

abbrev B : Name
B = bytes "B"

abbrev u64 : Name
u64 = bytes "u64"

-- 01: a contract whose one function is main
main_of : List (List ℕ) → List ℕ
main_of ss = contract [] [] (function main [] ss ∷ [])

-- 01: main behind f, which takes one u64
with_f : List (List ℕ) → List ℕ
with_f ss = contract [] [] (function f (field x u64 ∷ []) [] ∷ function main [] ss ∷ [])

-- 01: kind 40, with an expression and without
returns : List ℕ
returns = contract [] [] (giving main [] u64 (rec 40 (int 1 ∷ []) ∷ []) ∷ [])

returns_none : List ℕ
returns_none = main_of (rec 40 [] ∷ [])

-- 01: kind 69, with an Init
literal : List ℕ
literal = contract [] (struct A (field x u64 ∷ []) ∷ []) (function main [] (just (rec 69 (name A ∷ list (rec 20 (name x ∷ int 5 ∷ []) ∷ []) ∷ [])) ∷ []) ∷ [])

-- 01: an access of an access
nested : List ℕ
nested = contract [] (struct A (field x B ∷ []) ∷ struct B (field y u64 ∷ []) ∷ [])
    (function main (field f A ∷ []) (constrain (field_access (field_access (ident f) x) y) ∷ []) ∷ [])

-- The records of the first n words, and of those that were patched 1 and the target.
places : ℕ → List ℕ → List ℕ
places n img = map (λ (i : ℕ). (computed_why img i).place) (count 0 n)

targets : ℕ → List ℕ → List ℕ
targets n img = map (λ (i : ℕ). pick (computed_why img i).patched (suc (computed_why img i).target) 0) (count 0 n)

-- 02: P5: entry and exit words, and those of each construct
record Samples : Type 0 where
  C1 : places 10 (main_of []) ≡ 0 ∷ 0 ∷ 0 ∷ replicate 7 31
  C1_targets : targets 10 (main_of []) ≡ 0 ∷ 4 ∷ replicate 8 0
  C1_past : computed_why (main_of []) 10 ≡ because 53 0 None
  C1_far : computed_why (main_of []) 18446744073709551615 ≡ because 53 0 None
  C2 : computed_why (take 71 (main_of [])) 0 ≡ because 2 0 None
  C9 : computed_why (contract [] [] (function f [] [] ∷ [])) 0 ≡ because 40 0 None
  C15 : places 14 (main_of (just (int (2 ^ 60)) ∷ [])) ≡ 0 ∷ 0 ∷ 0 ∷ 31 ∷ 31 ∷ replicate 4 78 ++ replicate 5 31
  C6 : places 13 (main_of (if_then (int 1) [] ∷ [])) ≡ 0 ∷ 0 ∷ 0 ∷ 31 ∷ 31 ∷ 78 ∷ 72 ∷ 72 ∷ replicate 5 31
  C6_targets : targets 13 (main_of (if_then (int 1) [] ∷ [])) ≡ 0 ∷ 4 ∷ 0 ∷ 0 ∷ 0 ∷ 0 ∷ 9 ∷ 9 ∷ replicate 5 0
  Else : places 15 (main_of (if_else (int 1) (just (int 2) ∷ []) (just (int 3) ∷ []) ∷ [])) ≡ 0 ∷ 0 ∷ 0 ∷ 31 ∷ 31 ∷ 78 ∷ 72 ∷ 130 ∷ 72 ∷ 104 ∷ replicate 5 31
  ElseTargets : targets 15 (main_of (if_else (int 1) (just (int 2) ∷ []) (just (int 3) ∷ []) ∷ [])) ≡ 0 ∷ 4 ∷ 0 ∷ 0 ∷ 0 ∷ 0 ∷ 10 ∷ 0 ∷ 11 ∷ replicate 6 0
  C7 : places 14 (main_of (while (int 1) [] ∷ [])) ≡ 0 ∷ 0 ∷ 0 ∷ 31 ∷ 31 ∷ 78 ∷ 72 ∷ 72 ∷ 72 ∷ replicate 5 31
  C7_targets : targets 14 (main_of (while (int 1) [] ∷ [])) ≡ 0 ∷ 4 ∷ 0 ∷ 0 ∷ 0 ∷ 0 ∷ 9 ∷ 10 ∷ replicate 6 0
  For : places 21 (main_of (for x (int 0) (int 2) (constrain (int 1) ∷ []) ∷ [])) ≡ 0 ∷ 0 ∷ 0 ∷ 31 ∷ 31 ∷ 85 ∷ 99 ∷ 72 ∷ 72 ∷ 72 ∷ 72 ∷ 125 ∷ 119 ∷ 72 ∷ 72 ∷ 72 ∷ replicate 5 31
  ForTargets : targets 21 (main_of (for x (int 0) (int 2) (constrain (int 1) ∷ []) ∷ [])) ≡ 0 ∷ 4 ∷ replicate 7 0 ++ 12 ∷ 17 ∷ replicate 10 0
  Return : places 15 returns ≡ 0 ∷ 0 ∷ 0 ∷ 31 ∷ 31 ∷ 81 ∷ 87 ∷ 81 ∷ 81 ∷ 81 ∷ replicate 5 31
  ReturnNone : places 15 returns_none ≡ 0 ∷ 0 ∷ 0 ∷ 31 ∷ 31 ∷ replicate 5 72 ++ replicate 5 31
  Literal : places 16 literal ≡ 0 ∷ 0 ∷ 0 ∷ 72 ∷ 72 ∷ 119 ∷ 151 ∷ replicate 4 119 ++ replicate 5 72
  Call : places 24 (with_f (just (call f (int 1 ∷ [])) ∷ [])) ≡ 0 ∷ 0 ∷ 0 ∷ replicate 8 31 ++ 91 ∷ 91 ∷ 138 ∷ 157 ∷ replicate 4 138 ++ replicate 5 91
  CallTargets : targets 24 (with_f (just (call f (int 1 ∷ [])) ∷ [])) ≡ 0 ∷ 12 ∷ replicate 14 0 ++ 4 ∷ replicate 7 0
  Saves : places 26 (with_f (let_in y (int 1) ∷ just (call f (ident y ∷ [])) ∷ [])) ≡ 0 ∷ 0 ∷ 0 ∷ replicate 8 31 ++ 91 ∷ 91 ∷ 145 ∷ replicate 7 165 ++ replicate 5 91
  SavesTargets : targets 26 (with_f (let_in y (int 1) ∷ just (call f (ident y ∷ [])) ∷ [])) ≡ 0 ∷ 12 ∷ replicate 15 0 ++ 4 ∷ replicate 8 0
  Poseidon : places 13 (main_of (just (call (bytes "poseidon") (int 1 ∷ int 2 ∷ [])) ∷ [])) ≡ 0 ∷ 0 ∷ 0 ∷ 31 ∷ 31 ∷ 104 ∷ 118 ∷ 78 ∷ replicate 5 31
  Sender : places 11 (main_of (just (call (bytes "msg::sender") []) ∷ [])) ≡ 0 ∷ 0 ∷ 0 ∷ 31 ∷ 31 ∷ 78 ∷ replicate 5 31
  Nested : places 14 nested ≡ 0 ∷ 0 ∷ 0 ∷ 111 ∷ 111 ∷ 111 ∷ 184 ∷ 178 ∷ 172 ∷ replicate 5 111

-- 02: P5, by computation
samples : Samples
unfolding computed_why le join rec bytes main_of with_f returns returns_none literal nested places targets
samples = record {
  C1 = refl;
  C1_targets = refl;
  C1_past = refl;
  C1_far = refl;
  C2 = refl;
  C9 = refl;
  C15 = refl;
  C6 = refl;
  C6_targets = refl;
  Else = refl;
  ElseTargets = refl;
  C7 = refl;
  C7_targets = refl;
  For = refl;
  ForTargets = refl;
  Return = refl;
  ReturnNone = refl;
  Literal = refl;
  Call = refl;
  CallTargets = refl;
  Saves = refl;
  SavesTargets = refl;
  Poseidon = refl;
  Sender = refl;
  Nested = refl;
}
