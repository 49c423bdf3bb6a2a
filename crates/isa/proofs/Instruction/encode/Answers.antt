-- `isa::Instruction::encode` meets its contract: the tests that led to each `return` pick the case of `encode_of`.
use Rattle.std.proofs.Common.{le-leb}
use borrow.Author.Tests.{lt-leb}
use Rattle.isa.specs.Word.{encode_of, word_of}
use Rattle.isa.proofs.Instruction.encode.Goals as goal

pub returns-then-self-gt-HEAP : goal.returns-then-self-gt-HEAP
unfolding encode_of
returns-then-self-gt-HEAP c = simp (lt-leb _ _ c.if-self-gt-HEAP.true)

pub returns-then-self-gt-HEAP-2 : goal.returns-then-self-gt-HEAP-2
unfolding encode_of
returns-then-self-gt-HEAP-2 c = simp (le-leb _ _ c.if-self-gt-HEAP.false, lt-leb _ _ c.if-self-gt-HEAP-2.true)

pub returns-then-self-gt-HEAP-3 : goal.returns-then-self-gt-HEAP-3
unfolding encode_of
returns-then-self-gt-HEAP-3 c = simp (le-leb _ _ c.if-self-gt-HEAP.false, le-leb _ _ c.if-self-gt-HEAP-2.false, lt-leb _ _ c.if-self-gt-HEAP-3.true)

pub returns-then-top-gt-TOP : goal.returns-then-top-gt-TOP
unfolding encode_of
returns-then-top-gt-TOP c = simp (le-leb _ _ c.if-self-gt-HEAP.false, le-leb _ _ c.if-self-gt-HEAP-2.false, le-leb _ _ c.if-self-gt-HEAP-3.false, lt-leb _ _ c.if-top-gt-TOP.true)

pub returns : goal.returns
unfolding encode_of word_of
returns c = simp (le-leb _ _ c.if-self-gt-HEAP.false, le-leb _ _ c.if-self-gt-HEAP-2.false, le-leb _ _ c.if-self-gt-HEAP-3.false, le-leb _ _ c.if-top-gt-TOP.false, c.number-n.ensures)
