-- `in_loop` meets its contract.
use mathlib.Core.Path.{sym, ◌∙◌}
use Prim.Native.Nat.{◌+◌}
use native.Mathlib.Omega.{arith}
use borrow.Author.Tests.{leb-false}
use Rattle.trace.specs.Moves.{jnz, jmp, back, body}
use Rattle.trace.proofs.in_loop.Goals as goal

pub returns-then-want-j : goal.returns-then-want-j
returns-then-want-j c = jnz _ _ c.reserve-j.ensures c.open_slot-a.ensures c.if-want-j.true c.jump.ensures

pub returns-then-want-a : goal.returns-then-want-a
returns-then-want-a c = jmp _ _ c.reserve-j.ensures c.open_slot-a.ensures c.if-want-j.false c.if-want-a.true c.jump-then-want-a.ensures

pub returns-then-among_last : goal.returns-then-among_last
returns-then-among_last c = back _ _ c.reserve-j.ensures c.open_slot-a.ensures c.if-want-a.false (sym c.among_last.ensures ∙ c.if-among_last.true) c.own.ensures

pub overflow_sub-end : goal.overflow_sub-end
overflow_sub-end c = omega (arith, leb-false c.args.end (c.args.want + c.args.k) (sym c.among_last.ensures ∙ c.if-among_last.false))

pub returns : goal.returns
returns c = body _ _ c.reserve-j.ensures c.open_slot-a.ensures c.if-want-a.false (sym c.among_last.ensures ∙ c.if-among_last.false) c.block.ensures
