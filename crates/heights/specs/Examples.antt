-- The law refuses what it is to refuse: four wrong translations, each a word list with its table, and a proof that the law does not
-- hold of it. And it minds no dead code: it holds of a function with nonsense behind its Return.
-- Assumes nothing.
use Rattle.std.specs.Prelude.{refl, List, [], ◌∷◌, ◌++◌, ℕ}
use Rattle.std.proofs.Common.{arith}
use Rattle.isa.specs.declared.Opcode.TheVariants as op
use Rattle.rules.specs.Bytes.{pick, eq_name}
use Rattle.rules.specs.Tables.{or_else, last}
use Rattle.rules.specs.Machine.{Imm, Word, Entry, Way, Path, start, step, Heights}
use Rattle.rules.specs.Emit.{Open, calls, emit, push, pop, load, ret, branches}
use Rattle.rules.specs.Link.{less, distance, patch, link}
use Rattle.heights.specs.Law.{ret_at_two}

-- The function that is walked: no parameters, at index 0, no name.
unfoldable pub walked : Entry
walked = record { place = 0; name = []; params = 0; first = 0; past = 12 }

-- One that it calls: two parameters, behind it, the name a.
unfoldable pub called : Entry
called = record { place = 0; name = 97 ∷ []; params = 2; first = 12; past = 24 }

-- Both.
abbrev pub table : List Entry
table = walked ∷ called ∷ []

-- The words of a function whose body's words are c: the return address off the stack and on again; c; 0 and the address, Ret.
unfoldable pub around : List Open → List Word
around c = link table 0 (pop 0 1 ∷ push 0 1 ∷ (c ++ (pop 0 2 ∷ load 0 3 0 ∷ push 0 3 ∷ push 0 2 ∷ ret 0 ∷ [])))

-- An If whose else leaves one value more on the stack.
pub arms_differ : List Open
arms_differ = branches 0 1 (push 0 1 ∷ []) []

-- A call that passes one argument of two; its result is taken off the stack.
pub argument_short : List Open
argument_short = push 0 1 ∷ calls 0 (97 ∷ []) ∷ pop 0 4 ∷ []

-- A Return that leaves the return address where it is.
pub address_kept : List Open
address_kept = load 0 4 7 ∷ push 0 4 ∷ push 0 1 ∷ ret 0 ∷ []

-- A call that saves register 1 and does not restore it.
pub restored_short : List Open
restored_short = push 0 1 ∷ calls 0 [] ∷ pop 0 4 ∷ []

-- The body is entered at height one.
entered : (c : List Open) → Path (around c) table walked 2 1
unfolding around link patch walked
entered c = step (step start _ refl Way.pass 1 0 1 (refl, refl, refl) 0 refl) _ refl Way.pass 0 1 2 (refl, refl, refl) 0 refl

-- What is behind the If is met at heights one and two.
pub arms_refuted : Heights (around arms_differ) table walked → ⊥
unfolding around arms_differ branches link patch walked
arms_refuted law = omega (arith, law.one_height 5 1 2 jumped passed)
  where
    jumped : Path (around arms_differ) table walked 5 1
    jumped = step (entered arms_differ) _ refl Way.jump 0 0 5 (refl, refl, refl) 1 refl

    passed : Path (around arms_differ) table walked 5 2
    passed = step (step (step (entered arms_differ) _ refl Way.pass 0 0 3 (refl, refl, refl) 1 refl) _ refl Way.pass 0 1 4 (refl, refl, refl) 1 refl) _ refl Way.pass 0 0 5 (refl, refl, refl) 2 refl

-- The Call takes what was passed and the return address, its result is popped, and the next Pop finds nothing.
pub argument_refuted : Heights (around argument_short) table walked → ⊥
unfolding around argument_short link patch distance last or_else pick eq_name less walked called
argument_refuted law = omega (arith, law.enough 5 0 emptied _ refl Way.pass 1 0 6 (refl, refl, refl))
  where
    emptied : Path (around argument_short) table walked 5 0
    emptied = step (step (step (entered argument_short) _ refl Way.pass 0 1 3 (refl, refl, refl) 1 refl)
        _ refl Way.pass 2 1 4 (12, refl, (1, called, refl, refl, refl), refl, refl) 0 refl) _ refl Way.pass 1 0 5 (refl, refl, refl) 0 refl

-- Ret is met at height three.
pub address_refuted : Heights (around address_kept) table walked → ⊥
unfolding around address_kept link patch walked
address_refuted law = omega (arith, ret_at_two _ _ _ law 5 3 at-ret _ refl refl)
  where
    at-ret : Path (around address_kept) table walked 5 3
    at-ret = step (step (step (entered address_kept) _ refl Way.pass 0 0 3 (refl, refl, refl) 1 refl) _ refl Way.pass 0 1 4 (refl, refl, refl) 1 refl) _ refl Way.pass 0 1 5 (refl, refl, refl) 2 refl

-- So here, at the function's own Ret.
pub restored_refuted : Heights (around restored_short) table walked → ⊥
unfolding around restored_short link patch distance last or_else pick eq_name less walked called
restored_refuted law = omega (arith, ret_at_two _ _ _ law 9 3 at-ret _ refl refl)
  where
    behind : Path (around restored_short) table walked 5 2
    behind = step (step (step (entered restored_short) _ refl Way.pass 0 1 3 (refl, refl, refl) 1 refl)
        _ refl Way.pass 0 1 4 (0, refl, (0, walked, refl, refl, refl), refl, refl) 2 refl) _ refl Way.pass 1 0 5 (refl, refl, refl) 2 refl

    at-ret : Path (around restored_short) table walked 9 3
    at-ret = step (step (step (step behind _ refl Way.pass 1 0 6 (refl, refl, refl) 1 refl) _ refl Way.pass 0 0 7 (refl, refl, refl) 1 refl)
        _ refl Way.pass 0 1 8 (refl, refl, refl) 1 refl) _ refl Way.pass 0 1 9 (refl, refl, refl) 2 refl

-- A Return, and behind it words that would take what is not there, jump out of the function, and halt.
unfoldable pub dead_code : List Open
dead_code = pop 0 2 ∷ load 0 3 7 ∷ push 0 3 ∷ push 0 2 ∷ ret 0 ∷ pop 0 1 ∷ pop 0 1 ∷ emit 0 op.Jmp 0 0 0 (Imm.neg 9) ∷ emit 0 op.Halt 0 0 0 (Imm.pos 0) ∷ []

-- The heights up to the Ret.
abbrev pub met : List ℕ
met = 1 ∷ 0 ∷ 1 ∷ 0 ∷ 0 ∷ 1 ∷ 2 ∷ []
