-- Why a word is there (02: P5): the record whose own translation emitted it, whether 000 patched it later, and where its offset leads.
-- Every open word has its record from the start (Emit), so that marking is no second translation: the build's words are these, linked.
-- Assumes nothing.
use Rattle.std.specs.Prelude.{true, false, List, ◌++◌, ℕ, suc, ◌+◌, ◌-◌, None, Option, Some}
use Rattle.rules.specs.declared.Why.{Why}
use Rattle.rules.specs.Bytes.{pick}
use Rattle.rules.specs.Tables.{last, mapped, nth}
use Rattle.rules.specs.Tree.{Function, Contract}
use Rattle.rules.specs.Refusal.{Res, ok, bad, ◌>>=◌, answer, number_of, place_of}
use Rattle.rules.specs.Builtins.{main}
use Rattle.rules.specs.Machine.{Imm, Entry}
use Rattle.rules.specs.Emit.{Rules, Open, word, calls}
use Rattle.rules.specs.Link.{Built, functions, opening, with_main}
use Rattle.rules.specs.Build.{rules, judged, packed}

-- 02: the innermost record whose own translation emitted the word: a statement, an expression, a function, or the Contract (0)
unfoldable pub mark_of : Open → ℕ
mark_of (word p b w) = p
mark_of (calls p f) = p

-- 000: patch_jump, read back: where an offset leads from its own index
unfoldable pub landing : (own : ℕ) → Imm → ℕ
landing i (Imm.pos d) = i + d
landing i (Imm.neg d) = i - d

-- 000: patch_jump: the target that a patched word's offset came from: what a jump leads to, a call's last function of the name. None: not patched.
unfoldable pub target_of : List Entry → (own : ℕ) → Open → Option ℕ
target_of T i (word p false w) = None
target_of T i (word p true w) = Some (landing i w.imm)
target_of T i (calls p f) = mapped (λ (e : Entry). e.first) (last (λ (e : Entry). e.name) f T)

-- 000: generate, before the calls are linked: each word with its record
unfoldable pub marked : Rules → Contract → Res Built
marked R C = with_main (last (λ (f : Function). f.name) main C.functions) (do
  b ← functions R C 3 C.functions
  ok (record { code = opening R ++ b.code; table = b.table }))

-- 01: Order: image, analysis, 30, generation; for the target of the public answers
unfoldable pub marked_of : List ℕ → Res Built
marked_of img = do
  C ← judged img
  marked rules C

-- 02: P5: an answer, with the target of a patched word
unfoldable pub because : (refusal place : ℕ) → Option ℕ → Why
because r p None = record { refusal = r; place = p; patched = false; target = 0 }
because r p (Some t) = record { refusal = r; place = p; patched = true; target = t }

-- 02: 53: no word has the index
unfoldable pub word_why : List Entry → (index : ℕ) → Option Open → Why
word_why T i None = because 53 0 None
word_why T i (Some o) = because 0 (mark_of o) (target_of T i o)

-- 02: the build's own refusals come first
unfoldable pub why_in : (index : ℕ) → Res Built → Why
why_in i (ok b) = word_why b.table i (nth i b.code)
why_in i (bad q) = because (number_of q) (place_of q) None

-- 02: P5: the whole answer, of any image and any index
unfoldable pub why_of : (img : List ℕ) (index : ℕ) → Why
why_of img i = why_in i (marked_of img)

-- 02: P5 across the C boundary: the count is 0 for a word that was not patched, else 1 and the index of its target
unfoldable pub packed_why : Why → ℕ
packed_why w = packed (answer w.refusal w.place (pick w.patched (suc w.target) 0))
