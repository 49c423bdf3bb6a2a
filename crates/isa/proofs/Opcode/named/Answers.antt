-- `isa::Opcode::named` meets its contract: each arm is an entry of `opcodes`; the last one, and what is past it, have none.
use Rattle.std.proofs.Common.{refl, arith}
use Rattle.isa.specs.Ruled.{passed, opcode_last}
use Rattle.isa.proofs.Opcode.named.Goals as goal

pub returns-in-0 : goal.returns-in-0
returns-in-0 c = rw c.in-0.is refl

pub returns-in-1 : goal.returns-in-1
returns-in-1 c = rw c.in-1.is refl

pub returns-in-2 : goal.returns-in-2
returns-in-2 c = rw c.in-2.is refl

pub returns-in-3 : goal.returns-in-3
returns-in-3 c = rw c.in-3.is refl

pub returns-in-4 : goal.returns-in-4
returns-in-4 c = rw c.in-4.is refl

pub returns-in-5 : goal.returns-in-5
returns-in-5 c = rw c.in-5.is refl

pub returns-in-6 : goal.returns-in-6
returns-in-6 c = rw c.in-6.is refl

pub returns-in-7 : goal.returns-in-7
returns-in-7 c = rw c.in-7.is refl

pub returns-in-8 : goal.returns-in-8
returns-in-8 c = rw c.in-8.is refl

pub returns-in-9 : goal.returns-in-9
returns-in-9 c = rw c.in-9.is refl

pub returns-in-10 : goal.returns-in-10
returns-in-10 c = rw c.in-10.is refl

pub returns-in-11 : goal.returns-in-11
returns-in-11 c = rw c.in-11.is refl

pub returns-in-12 : goal.returns-in-12
returns-in-12 c = rw c.in-12.is refl

pub returns-in-13 : goal.returns-in-13
returns-in-13 c = rw c.in-13.is refl

pub returns-in-14 : goal.returns-in-14
returns-in-14 c = rw c.in-14.is refl

pub returns-in-15 : goal.returns-in-15
returns-in-15 c = rw c.in-15.is refl

pub returns-in-16 : goal.returns-in-16
returns-in-16 c = rw c.in-16.is refl

pub returns-in-17 : goal.returns-in-17
returns-in-17 c = rw c.in-17.is refl

pub returns-in-18 : goal.returns-in-18
returns-in-18 c = rw c.in-18.is refl

pub returns-in-19 : goal.returns-in-19
returns-in-19 c = rw c.in-19.is refl

pub returns-in-20 : goal.returns-in-20
returns-in-20 c = rw c.in-20.is refl

pub returns-in-21 : goal.returns-in-21
returns-in-21 c = rw c.in-21.is refl

pub returns-in-22 : goal.returns-in-22
returns-in-22 c = rw c.in-22.is refl

pub returns-in-23 : goal.returns-in-23
returns-in-23 c = rw c.in-23.is refl

pub returns-in-24 : goal.returns-in-24
returns-in-24 c = rw c.in-24.is refl

pub returns-in-25 : goal.returns-in-25
returns-in-25 c = rw c.in-25.is refl

pub returns-in-26 : goal.returns-in-26
returns-in-26 c = rw c.in-26.is refl

pub returns-in-27 : goal.returns-in-27
returns-in-27 c = rw c.in-27.is refl

pub returns-in-28 : goal.returns-in-28
returns-in-28 c = rw c.in-28.is refl

pub returns-in-29 : goal.returns-in-29
returns-in-29 c = rw c.in-29.is refl

pub returns-in_default : goal.returns-in_default
returns-in_default c = opcode_last _ (passed 29 _ (passed 28 _ (passed 27 _ (passed 26 _ (passed 25 _ (passed 24 _ (passed 23 _ (passed 22 _ (passed 21 _ (passed 20 _ (passed 19 _ (passed 18 _ (passed 17 _ (passed 16 _ (passed 15 _ (passed 14 _ (passed 13 _ (passed 12 _ (passed 11 _ (passed 10 _ (passed 9 _ (passed 8 _ (passed 7 _ (passed 6 _ (passed 5 _ (passed 4 _ (passed 3 _ (passed 2 _ (passed 1 _ (passed 0 _ (omega arith) c.in_default.in_default-own.rest.0.0.0.0.0.0.0.0.0.0.0.0.0.0.0.0.0.0.0.0.0.0.0.0.0.0.0.0.0.1) c.in_default.in_default-own.rest.0.0.0.0.0.0.0.0.0.0.0.0.0.0.0.0.0.0.0.0.0.0.0.0.0.0.0.0.1) c.in_default.in_default-own.rest.0.0.0.0.0.0.0.0.0.0.0.0.0.0.0.0.0.0.0.0.0.0.0.0.0.0.0.1) c.in_default.in_default-own.rest.0.0.0.0.0.0.0.0.0.0.0.0.0.0.0.0.0.0.0.0.0.0.0.0.0.0.1) c.in_default.in_default-own.rest.0.0.0.0.0.0.0.0.0.0.0.0.0.0.0.0.0.0.0.0.0.0.0.0.0.1) c.in_default.in_default-own.rest.0.0.0.0.0.0.0.0.0.0.0.0.0.0.0.0.0.0.0.0.0.0.0.0.1) c.in_default.in_default-own.rest.0.0.0.0.0.0.0.0.0.0.0.0.0.0.0.0.0.0.0.0.0.0.0.1) c.in_default.in_default-own.rest.0.0.0.0.0.0.0.0.0.0.0.0.0.0.0.0.0.0.0.0.0.0.1) c.in_default.in_default-own.rest.0.0.0.0.0.0.0.0.0.0.0.0.0.0.0.0.0.0.0.0.0.1) c.in_default.in_default-own.rest.0.0.0.0.0.0.0.0.0.0.0.0.0.0.0.0.0.0.0.0.1) c.in_default.in_default-own.rest.0.0.0.0.0.0.0.0.0.0.0.0.0.0.0.0.0.0.0.1) c.in_default.in_default-own.rest.0.0.0.0.0.0.0.0.0.0.0.0.0.0.0.0.0.0.1) c.in_default.in_default-own.rest.0.0.0.0.0.0.0.0.0.0.0.0.0.0.0.0.0.1) c.in_default.in_default-own.rest.0.0.0.0.0.0.0.0.0.0.0.0.0.0.0.0.1) c.in_default.in_default-own.rest.0.0.0.0.0.0.0.0.0.0.0.0.0.0.0.1) c.in_default.in_default-own.rest.0.0.0.0.0.0.0.0.0.0.0.0.0.0.1) c.in_default.in_default-own.rest.0.0.0.0.0.0.0.0.0.0.0.0.0.1) c.in_default.in_default-own.rest.0.0.0.0.0.0.0.0.0.0.0.0.1) c.in_default.in_default-own.rest.0.0.0.0.0.0.0.0.0.0.0.1) c.in_default.in_default-own.rest.0.0.0.0.0.0.0.0.0.0.1) c.in_default.in_default-own.rest.0.0.0.0.0.0.0.0.0.1) c.in_default.in_default-own.rest.0.0.0.0.0.0.0.0.1) c.in_default.in_default-own.rest.0.0.0.0.0.0.0.1) c.in_default.in_default-own.rest.0.0.0.0.0.0.1) c.in_default.in_default-own.rest.0.0.0.0.0.1) c.in_default.in_default-own.rest.0.0.0.0.1) c.in_default.in_default-own.rest.0.0.0.1) c.in_default.in_default-own.rest.0.0.1) c.in_default.in_default-own.rest.0.1) c.in_default.in_default-own.rest.1)
