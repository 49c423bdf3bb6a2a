-- The texts of the Rust (02: P1), of any image and any slice: variant name, colon, space, the string as 000 and 001 build it.
-- Assumes nothing.
use Rattle.std.specs.Prelude.{List, [], ◌∷◌, ◌++◌, ℕ, zero, suc, ◌+◌, ◌/◌, ◌%◌, ltb, length}
use Prim.Native.Char.{code}
use Prim.Native.String.{String, [] as nil, ◌∷◌ as ◌then◌}
use Rattle.rules.specs.declared.Answer.{Answer}
use Rattle.rules.specs.Bytes.{pick}
use Rattle.rules.specs.Types.{Typ}
use Rattle.rules.specs.Refusal.{Refusal, Res, ok, bad, answer, number_of, place_of}
use Rattle.rules.specs.Lent.{over}
use Rattle.rules.specs.Build.{rules, program}

-- 02: P1: the bytes of a text, which are its characters' numbers, all below 128
unfoldable pub bytes : String → List ℕ
bytes nil = []
bytes (c then s) = code c ∷ bytes s

-- 000, 001: {} of a usize: what stands before its last digit, nothing where nothing is left
unfoldable pub higher : (ℕ → List ℕ) → ℕ → List ℕ
higher f zero = []
higher f (suc n) = f (suc n)

-- 000, 001: {} of a usize, k digits at most
unfoldable pub digits : ℕ → ℕ → List ℕ
digits zero n = []
digits (suc k) n = higher (digits k) (n / 10) ++ ((48 + n % 10) ∷ [])

-- 000, 001: {} of a usize, which has 20 digits at most
unfoldable pub decimal : ℕ → List ℕ
decimal n = digits 20 n

-- 001: {:?} of a Type. Names have no byte that the debug form escapes.
unfoldable pub type_text : Typ → List ℕ
type_text Typ.u64 = bytes "U64"
type_text Typ.bool = bytes "Bool"
type_text Typ.field = bytes "Field"
type_text Typ.void = bytes "Void"
type_text Typ.unknown = bytes "Unknown"
type_text (Typ.struct x) = bytes "Struct(\"" ++ (x ++ bytes "\")")

-- 000, 001, 004: CompileError, its variant's name and its string. 1 to 7, 30, 50 and 51 are not the Rust's: no text.
unfoldable pub text_of : Refusal → List ℕ
text_of (Refusal.fault n p) = []
text_of (Refusal.undefined_name p x) = bytes "SemanticError: Undefined identifier: " ++ x
text_of (Refusal.undefined_target p x) = bytes "SemanticError: Undefined variable: " ++ x
text_of (Refusal.assign_type p a b) = bytes "SemanticError: Type mismatch in assign: expected " ++ (type_text a ++ (bytes ", got " ++ type_text b))
text_of (Refusal.return_type p a b) = bytes "SemanticError: Type mismatch in return: expected " ++ (type_text a ++ (bytes ", got " ++ type_text b))
text_of (Refusal.no_field p s x) = bytes "SemanticError: Struct " ++ (s ++ (bytes " has no field " ++ x))
text_of (Refusal.not_struct p) = bytes "SemanticError: Field access on non-struct"
text_of (Refusal.init_type p x) = bytes "SemanticError: Field " ++ (x ++ bytes " type mismatch")
text_of (Refusal.init_field p x) = bytes "SemanticError: Unknown field " ++ x
text_of (Refusal.no_struct p x) = bytes "SemanticError: Undefined struct: " ++ x
text_of (Refusal.arg_count p f a b) = bytes "SemanticError: Function " ++ (f ++ (bytes " expects " ++ (decimal a ++ (bytes " args, got " ++ decimal b))))
text_of (Refusal.arg_type p i f) = bytes "SemanticError: Arg " ++ (decimal i ++ (bytes " type mismatch in " ++ f))
text_of (Refusal.no_function p f) = bytes "SemanticError: Undefined function: " ++ f
text_of (Refusal.operands p) = bytes "SemanticError: Type mismatch in binary expression"
text_of (Refusal.ambiguous p) = []
text_of Refusal.no_main = bytes "CodegenError: main function not found"
text_of (Refusal.exhausted p) = bytes "RegisterExhausted"
text_of (Refusal.unread p x) = bytes "CodegenError: Undefined variable in codegen: " ++ x
text_of (Refusal.unassigned p x) = bytes "CodegenError: Undefined variable: " ++ x
text_of (Refusal.storage_unwritten p x) = bytes "CodegenError: Unknown storage variable: " ++ x
text_of (Refusal.mapping_unwritten p x) = bytes "CodegenError: Unknown mapping variable: " ++ x
text_of (Refusal.storage_unread p x) = bytes "CodegenError: Unknown storage variable in codegen: " ++ x
text_of (Refusal.mapping_unread p x) = bytes "CodegenError: Unknown mapping in codegen: " ++ x
text_of (Refusal.no_room k) = []
text_of (Refusal.no_table k) = []

-- 02: P1: the text of what is refused, whatever the slice; an acceptance has none
unfoldable pub told_text : {A : Type 0} → Res A → List ℕ
told_text (ok a) = []
told_text (bad r) = text_of r

-- 02: number and place are the build's, count is the text's length
unfoldable pub told_answer : {A : Type 0} → Res A → Answer
told_answer (ok a) = answer 0 0 0
told_answer (bad r) = answer (number_of r) (place_of r) (length (text_of r))

-- 02: 52 if the slice is shorter than 256 bytes, tested first
unfoldable pub text_answer : (img out : List ℕ) → Answer
text_answer img out = pick (ltb (length out) 256) (answer 52 0 0) (told_answer (program rules img))

-- 02: the slice at exit: the bytes past the text stay as lent; with no text it is unchanged
unfoldable pub text_bytes : (img out : List ℕ) → List ℕ
text_bytes img out = pick (ltb (length out) 256) out (over (told_text (program rules img)) out)
