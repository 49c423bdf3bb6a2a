-- `isa::Opcode::number` meets its contract: in each arm the enum is told, and its number computes.
use Rattle.std.proofs.Common.{sym, ap}
use Rattle.isa.specs.Word.{number_of}
use Rattle.isa.proofs.Opcode.number.Goals as goal

pub returns-in-Halt : goal.returns-in-Halt
unfolding number_of
returns-in-Halt c = sym (ap number_of c.in-Halt.is)

pub returns-in-Add : goal.returns-in-Add
unfolding number_of
returns-in-Add c = rw c.in-Add.is

pub returns-in-Sub : goal.returns-in-Sub
unfolding number_of
returns-in-Sub c = sym (ap number_of c.in-Sub.is)

pub returns-in-Mul : goal.returns-in-Mul
unfolding number_of
returns-in-Mul c = sym (ap number_of c.in-Mul.is)

pub returns-in-Div : goal.returns-in-Div
unfolding number_of
returns-in-Div c = sym (ap number_of c.in-Div.is)

pub returns-in-Inv : goal.returns-in-Inv
unfolding number_of
returns-in-Inv c = sym (ap number_of c.in-Inv.is)

pub returns-in-And : goal.returns-in-And
unfolding number_of
returns-in-And c = sym (ap number_of c.in-And.is)

pub returns-in-Or : goal.returns-in-Or
unfolding number_of
returns-in-Or c = sym (ap number_of c.in-Or.is)

pub returns-in-Xor : goal.returns-in-Xor
unfolding number_of
returns-in-Xor c = sym (ap number_of c.in-Xor.is)

pub returns-in-Not : goal.returns-in-Not
unfolding number_of
returns-in-Not c = sym (ap number_of c.in-Not.is)

pub returns-in-Eq : goal.returns-in-Eq
unfolding number_of
returns-in-Eq c = sym (ap number_of c.in-Eq.is)

pub returns-in-Neq : goal.returns-in-Neq
unfolding number_of
returns-in-Neq c = sym (ap number_of c.in-Neq.is)

pub returns-in-Lt : goal.returns-in-Lt
unfolding number_of
returns-in-Lt c = sym (ap number_of c.in-Lt.is)

pub returns-in-Gt : goal.returns-in-Gt
unfolding number_of
returns-in-Gt c = sym (ap number_of c.in-Gt.is)

pub returns-in-Lte : goal.returns-in-Lte
unfolding number_of
returns-in-Lte c = sym (ap number_of c.in-Lte.is)

pub returns-in-Gte : goal.returns-in-Gte
unfolding number_of
returns-in-Gte c = sym (ap number_of c.in-Gte.is)

pub returns-in-Jmp : goal.returns-in-Jmp
unfolding number_of
returns-in-Jmp c = sym (ap number_of c.in-Jmp.is)

pub returns-in-Jnz : goal.returns-in-Jnz
unfolding number_of
returns-in-Jnz c = sym (ap number_of c.in-Jnz.is)

pub returns-in-Call : goal.returns-in-Call
unfolding number_of
returns-in-Call c = sym (ap number_of c.in-Call.is)

pub returns-in-Ret : goal.returns-in-Ret
unfolding number_of
returns-in-Ret c = sym (ap number_of c.in-Ret.is)

pub returns-in-Load : goal.returns-in-Load
unfolding number_of
returns-in-Load c = sym (ap number_of c.in-Load.is)

pub returns-in-Store : goal.returns-in-Store
unfolding number_of
returns-in-Store c = sym (ap number_of c.in-Store.is)

pub returns-in-Push : goal.returns-in-Push
unfolding number_of
returns-in-Push c = sym (ap number_of c.in-Push.is)

pub returns-in-Pop : goal.returns-in-Pop
unfolding number_of
returns-in-Pop c = sym (ap number_of c.in-Pop.is)

pub returns-in-Assert : goal.returns-in-Assert
unfolding number_of
returns-in-Assert c = sym (ap number_of c.in-Assert.is)

pub returns-in-Poseidon : goal.returns-in-Poseidon
unfolding number_of
returns-in-Poseidon c = sym (ap number_of c.in-Poseidon.is)

pub returns-in-Log : goal.returns-in-Log
unfolding number_of
returns-in-Log c = sym (ap number_of c.in-Log.is)

pub returns-in-SRead : goal.returns-in-SRead
unfolding number_of
returns-in-SRead c = sym (ap number_of c.in-SRead.is)

pub returns-in-SWrite : goal.returns-in-SWrite
unfolding number_of
returns-in-SWrite c = sym (ap number_of c.in-SWrite.is)

pub returns-in-Syscall : goal.returns-in-Syscall
unfolding number_of
returns-in-Syscall c = sym (ap number_of c.in-Syscall.is)

pub returns-in-VerifyMerkle : goal.returns-in-VerifyMerkle
unfolding number_of
returns-in-VerifyMerkle c = sym (ap number_of c.in-VerifyMerkle.is)
