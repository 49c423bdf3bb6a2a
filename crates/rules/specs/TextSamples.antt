-- The texts (02: P1), computed: one for each number and for each type, names of 64 bytes, and the slice at exit of images. The slice is lent as 260 sevens.
-- Assumes nothing.
use Rattle.std.specs.Prelude.{◌≡◌, refl, List, [], ◌∷◌, ◌++◌, ℕ, length, replicate}
use Prim.Native.String.{String}
use Rattle.rules.specs.Bytes.{Name}
use Rattle.rules.specs.Types.{Typ}
use Rattle.rules.specs.Refusal.{Refusal, answer}
use Rattle.rules.specs.Compute.{TextExit, computed_text}
use Rattle.rules.specs.Texts.{bytes, decimal, type_text, text_of}
use Rattle.rules.specs.Writer.{le, join, rec, contract, field, struct, function, let_in, constrain, assign, just, int, ident, field_access, call}

-- 02: P1: a name of the samples
abbrev name : String → Name
name s = bytes s

-- 02: P1: refusal, place and count, and the text in front of what was lent
abbrev told : ℕ → ℕ → String → ℕ → ℕ → TextExit
told r p s n k = record { answer = answer r p n; bytes = bytes s ++ replicate k 7 }

-- Structs A with x and y, and B with y alone; main takes p of that type, and p.y is all that it does (01: C11).
typed : String → List ℕ
typed t = contract []
    (struct (name "A") (field (name "x") (name "u64") ∷ field (name "y") (name "u64") ∷ []) ∷ struct (name "B") (field (name "y") (name "u64") ∷ []) ∷ [])
    (function (name "main") (field (name "p") (name t) ∷ []) (constrain (field_access (ident (name "p")) (name "y")) ∷ []) ∷ [])

-- 01: a Name of 64 bytes, each k
long : ℕ → Name
long k = replicate 64 k

-- 02: P1: what a slice of 260 sevens comes to
run : List ℕ → TextExit
run img = computed_text img (replicate 260 7)

-- 02: P1: one text for each number, then types, numbers and long names; then from images
record Samples : Type 0 where
  t10 : text_of (Refusal.undefined_name 9 (name "x")) ≡ bytes "SemanticError: Undefined identifier: x"
  t11 : text_of (Refusal.undefined_target 9 (name "x")) ≡ bytes "SemanticError: Undefined variable: x"
  t12 : text_of (Refusal.assign_type 9 (Typ.struct (name "Mask")) Typ.void) ≡ bytes "SemanticError: Type mismatch in assign: expected Struct(\"Mask\"), got Void"
  t13 : text_of (Refusal.return_type 9 Typ.bool Typ.field) ≡ bytes "SemanticError: Type mismatch in return: expected Bool, got Field"
  t14 : text_of (Refusal.no_field 9 (name "Mask") (name "land")) ≡ bytes "SemanticError: Struct Mask has no field land"
  t15 : text_of (Refusal.not_struct 9) ≡ bytes "SemanticError: Field access on non-struct"
  t16 : text_of (Refusal.init_type 9 (name "land")) ≡ bytes "SemanticError: Field land type mismatch"
  t17 : text_of (Refusal.init_field 9 (name "land")) ≡ bytes "SemanticError: Unknown field land"
  t18 : text_of (Refusal.no_struct 9 (name "Mask")) ≡ bytes "SemanticError: Undefined struct: Mask"
  t19 : text_of (Refusal.arg_count 9 (name "f") 512 0) ≡ bytes "SemanticError: Function f expects 512 args, got 0"
  t20 : text_of (Refusal.arg_type 9 10 (name "f")) ≡ bytes "SemanticError: Arg 10 type mismatch in f"
  t21 : text_of (Refusal.no_function 9 (name "msg::f")) ≡ bytes "SemanticError: Undefined function: msg::f"
  t22 : text_of (Refusal.operands 9) ≡ bytes "SemanticError: Type mismatch in binary expression"
  t40 : text_of Refusal.no_main ≡ bytes "CodegenError: main function not found"
  t41 : text_of (Refusal.exhausted 9) ≡ bytes "RegisterExhausted"
  t42 : text_of (Refusal.unread 9 (name "x")) ≡ bytes "CodegenError: Undefined variable in codegen: x"
  t43 : text_of (Refusal.unassigned 9 (name "x")) ≡ bytes "CodegenError: Undefined variable: x"
  t44 : text_of (Refusal.storage_unwritten 9 (name "x")) ≡ bytes "CodegenError: Unknown storage variable: x"
  t45 : text_of (Refusal.mapping_unwritten 9 (name "x")) ≡ bytes "CodegenError: Unknown mapping variable: x"
  t46 : text_of (Refusal.storage_unread 9 (name "x")) ≡ bytes "CodegenError: Unknown storage variable in codegen: x"
  t47 : text_of (Refusal.mapping_unread 9 (name "x")) ≡ bytes "CodegenError: Unknown mapping in codegen: x"
  u64 : type_text Typ.u64 ≡ bytes "U64"
  bool : type_text Typ.bool ≡ bytes "Bool"
  field_type : type_text Typ.field ≡ bytes "Field"
  void : type_text Typ.void ≡ bytes "Void"
  unknown : type_text Typ.unknown ≡ bytes "Unknown"
  mask : type_text (Typ.struct (name "Mask")) ≡ bytes "Struct(\"Mask\")"
  numbers : (decimal 0 ≡ bytes "0") × (decimal 9 ≡ bytes "9") × (decimal 10 ≡ bytes "10") × (decimal 18446744073709551615 ≡ bytes "18446744073709551615")
  longest : length (text_of (Refusal.assign_type 9 (Typ.struct (long 65)) (Typ.struct (long 66)))) ≡ 203
  both_names : text_of (Refusal.no_field 9 (long 65) (long 66)) ≡ bytes "SemanticError: Struct " ++ (long 65 ++ (bytes " has no field " ++ long 66))
  C1 : run (contract [] [] (function (name "main") [] [] ∷ [])) ≡ told 0 0 "" 0 260
  C2 : run [] ≡ told 2 0 "" 0 260
  C4_28 : run (contract [] [] (function (name "main") [] (replicate 28 (let_in (name "x") (int 1))) ∷ [])) ≡ told 41 31 "RegisterExhausted" 17 243
  C9 : run (contract [] [] (function (name "f") [] [] ∷ [])) ≡ told 40 0 "CodegenError: main function not found" 37 223
  C11 : run (typed "A") ≡ told 0 0 "" 0 260
  undeclared : run (typed "Foo") ≡ told 30 204 "" 0 260
  C13 : run (contract [] [] (function (name "f") [] [] ∷ function (name "main") [] (let_in (name "v") (call (name "f") []) ∷ assign (name "v") (int 1) ∷ []) ∷ []))
      ≡ told 12 142 "SemanticError: Type mismatch in assign: expected Void, got U64" 62 198
  C14 : run (contract [] [] (function (name "poseidon") (field (name "x") (name "u64") ∷ []) [] ∷ function (name "main") [] (just (call (name "poseidon") (int 1 ∷ [])) ∷ []) ∷ []))
      ≡ told 19 145 "SemanticError: Function poseidon expects 2 args, got 1" 54 206
  short : computed_text [] (replicate 255 7) ≡ record { answer = answer 52 0 0; bytes = replicate 255 7 }

-- 02: P1, by computation
samples : Samples
unfolding computed_text le join rec run typed long
samples = record {
  t10 = refl;
  t11 = refl;
  t12 = refl;
  t13 = refl;
  t14 = refl;
  t15 = refl;
  t16 = refl;
  t17 = refl;
  t18 = refl;
  t19 = refl;
  t20 = refl;
  t21 = refl;
  t22 = refl;
  t40 = refl;
  t41 = refl;
  t42 = refl;
  t43 = refl;
  t44 = refl;
  t45 = refl;
  t46 = refl;
  t47 = refl;
  u64 = refl;
  bool = refl;
  field_type = refl;
  void = refl;
  unknown = refl;
  mask = refl;
  numbers = (refl, refl, refl, refl);
  longest = refl;
  both_names = refl;
  C1 = refl;
  C2 = refl;
  C4_28 = refl;
  C9 = refl;
  C11 = refl;
  undeclared = refl;
  C13 = refl;
  C14 = refl;
  short = refl;
}
